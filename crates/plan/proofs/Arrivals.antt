-- Rows, byte by byte.
use Rattle.std.proofs.Common.{◌≡◌, ℕ, ◌+◌, ◌^◌, ◌<◌, ◌≤◌, true, ltb, List, length, take, is_ok, IfOk, Ok, Err, Result, refl, sym, ap, ◌∙◌}
use Rattle.std.proofs.lemmas.Bool.{cond-true, lt-ltb}
use Rattle.codec.specs.Codec.{Outcome, got, refused, follow, map_out, Codec, times, chain}
use Rattle.codec.proofs.Outcomes.{got_value, map-got, chain_got}
use Rattle.codec.proofs.Steps.{map-map}
use Rattle.codec.proofs.Sizes.{times_length, times_item}
use Rattle.model.specs.declared.plan.Arrival.{Arrival}
use Rattle.plan.specs.declared.refusal.Refusal.{Refusal}
use Rattle.plan.specs.Refusals.{told}
use Rattle.plan.specs.Ends.{seen, ended}
use Rattle.plan.specs.Sizes.{row_byte_size}
use Rattle.plan.specs.Taken.{was_read, things}
use Rattle.plan.specs.Rows.{row_byte, arrival, row, read_row, takes_row, row_in}
use Rattle.plan.proofs.Nth.{told_ok, ended_ok, was_list}

abbrev Arrivals : (n m : ℕ) → Codec (List Arrival)
Arrivals n m = times m (arrival n)

-- A row ends where its arrivals do, which stand behind the byte that says how many.
row_seen : (n m : ℕ) (xs : List ℕ) (k j : ℕ) → got m j ≡ (row_byte 255).read xs k → seen ((Arrivals n m).read xs j) ≡ seen ((row n).read xs k)
row_seen n m xs k j e =
    sym
    (map-map (λ l. tt) (λ (t : ℕ × List Arrival). t.1) ((chain (row_byte 255) (Arrivals n)).read xs k)
    ∙ ap (λ o. map_out (λ (t : ℕ × List Arrival). tt) (follow o (λ a i. map_out (λ (b : List Arrival). (a, b)) ((Arrivals n a).read xs i)))) (sym e)
    ∙ map-map (λ (t : ℕ × List Arrival). tt) (λ (b : List Arrival). (m, b)) ((Arrivals n m).read xs j))

pub row_is :
    (n m time : ℕ) (xs : List ℕ) (k j : ℕ) → time < 2 ^ 40 → got m j ≡ (row_byte 255).read xs k → seen ((Arrivals n m).read xs j) ≡ seen (read_row n time xs k)
row_is n m time xs k j h e =
    row_seen n m xs k j e ∙ ap seen (sym (cond-true (ltb time (2 ^ 40)) ((row n).read xs k) (refused 5 k) (lt-ltb time (2 ^ 40) h)))

seen_read : {A : Type 0} (o : Outcome A) → was_read (seen o) ≡ was_read o
seen_read (got a j) = refl
seen_read (refused n p) = refl

pub row_taken :
    (n m : ℕ) (xs : List ℕ) (k j : ℕ) (r : Result ℕ Refusal) → got m j ≡ (row_byte 255).read xs k → ended r ≡ seen ((Arrivals n m).read xs j)
    → IfOk r (λ i. takes_row n xs k ≡ true)
unfolding takes_row
row_taken n m xs k j (Ok i) e r = sym (ap was_read (r ∙ row_seen n m xs k j e) ∙ seen_read ((row n).read xs k))
row_taken n m xs k j (Err x) e r = tt

module _ (n : ℕ) (xs : List ℕ) (k : ℕ) (ok : takes_row n xs k ≡ true) where
  -- A row that was taken: how many, and each behind that.
  opened : (m : ℕ) × (j : ℕ) × ((row_byte 255).read xs k ≡ got m (k + 1)) × ((Arrivals n m).read xs (k + 1) ≡ got (row_in n xs k) j)
  unfolding takes_row row_in
  opened =
      let w = was_list ((row n).read xs k) ok in
      let t = map-got (λ (t : ℕ × List Arrival). t.1) ((chain (row_byte 255) (Arrivals n)).read xs k) _ w.0 w.1 in
      let q = chain_got (row_byte 255) (Arrivals n) xs k w.0 t.0 t.1 in
      let at : q.1 ≡ k + 1 = (row_byte_size 255).ends xs k q.1 q.0 q.3 in (
        q.0,
        w.0,
        q.3 ∙ ap (got q.0) at,
        ap ((Arrivals n q.0).read xs) (sym at) ∙ q.4 ∙ ap (λ l. got l w.0) (ap (λ (x : ℕ × List Arrival). x.1) q.5 ∙ t.2),
      )

  many : length (row_in n xs k) ≡ opened.0
  many = times_length (arrival n) xs opened.0 (k + 1) opened.1 (row_in n xs k) opened.3

  pub row_there : k + 1 ≤ length xs
  row_there = (row_byte_size 255).there xs k (k + 1) opened.0 opened.2

  pub count_ok : (p : ℕ) (r : Result ℕ Refusal) → told p r ≡ (row_byte 255).read xs k → is_ok r ≡ true
  count_ok p r e = ap is_ok (told_ok r _ p _ _ e opened.2)

  pub count_is : (m p : ℕ) → got m p ≡ (row_byte 255).read xs k → m ≡ length (row_in n xs k)
  count_is m p e = got_value (e ∙ opened.2) ∙ sym many

  module _ (m : ℕ) (em : m ≡ length (row_in n xs k)) where
    arrivals_read : (Arrivals n m).read xs (k + 1) ≡ got (row_in n xs k) opened.1
    arrivals_read = ap (λ i. (Arrivals n i).read xs (k + 1)) (em ∙ many) ∙ opened.3

    pub arrivals_there : was_read ((Arrivals n m).read xs (k + 1)) ≡ true
    arrivals_there = ap was_read arrivals_read

    pub arrivals_are : things ((Arrivals n m).read xs (k + 1)) ≡ row_in n xs k
    arrivals_are = ap things arrivals_read

  -- The arrivals in front of each were read.
  module _ (m : ℕ) (em : got m (k + 1) ≡ (row_byte 255).read xs k) where
    pub place_ok : (i : ℕ) (r : Result ℕ Refusal) → i < m → ended r ≡ seen ((Arrivals n i).read xs (k + 1)) → is_ok r ≡ true
    place_ok i r l e =
        let none : Arrival = record { partition = 0; byte = 0 } in
        let t = times_item (arrival n) xs m i (k + 1) opened.1 (row_in n xs k) none l (arrivals_read m (count_is m (k + 1) em)) in
        ap is_ok (ended_ok r ((Arrivals n i).read xs (k + 1)) t.0 (take i (row_in n xs k)) e t.2)
