-- One of so many records of one size that were read.
use Rattle.std.proofs.Common.{◌≡◌, ℕ, ◌+◌, ◌*◌, ◌<◌, ◌≤◌, true, false, List, [], ◌∷◌, length, get_or, None, Result, Ok, Err, sym, refl, ap, ◌∙◌, arith}
use Rattle.std.specs.List.{slice_get}
use Rattle.std.specs.Result.{result_ok}
use Rattle.std.proofs.lemmas.Bool.{both_ways}
use Rattle.std.proofs.lemmas.Option.{slice_get-get_or, slice_get_past}
use Rattle.codec.specs.Codec.{Outcome, got, refused, Codec, times}
use Rattle.codec.proofs.Outcomes.{never, got_value, got_place, map-got}
use Rattle.codec.proofs.Sizes.{times_length, times_sized, times_at}
use Rattle.plan.specs.declared.refusal.Refusal.{Refusal}
use Rattle.plan.specs.Refusals.{told}
use Rattle.plan.specs.Ends.{seen, ended}
use Rattle.plan.specs.Records.{HasSize}
use Rattle.plan.specs.Taken.{was_read, things}

-- What the code answers where reading went well.
pub told_ok : {A : Type 0} (r : Result A Refusal) (o : Outcome A) (j i : ℕ) (a : A) → told j r ≡ o → o ≡ got a i → r ≡ Ok a
told_ok (Ok x) o j i a e g = ap Ok (got_value (e ∙ g))
told_ok (Err x) o j i a e g = absurd (never (e ∙ g))

pub ended_ok : {A : Type 0} (r : Result ℕ Refusal) (o : Outcome A) (i : ℕ) (a : A) → ended r ≡ seen o → o ≡ got a i → r ≡ Ok i
ended_ok (Ok x) o i a e g = ap Ok (got_place (e ∙ ap seen g))
ended_ok (Err x) o i a e g = absurd (never (e ∙ ap seen g))

pub was_list : {A : Type 0} (o : Outcome (List A)) → was_read o ≡ true → (j : ℕ) × (o ≡ got (things o) j)
was_list (got l j) e = (j, refl)
was_list (refused n p) e = absurd (both_ways false refl e)

-- Where reading so many of one size ended.
pub passed_to :
    {A : Type 0} (c : Codec A) (m : ℕ) → HasSize c m → (xs : List ℕ) (n from j : ℕ) → got tt j ≡ seen ((times n c).read xs from) → j ≡ from + m * n
passed_to c m h xs n from j e =
    let q = map-got (λ l. tt) ((times n c).read xs from) tt j (sym e) in
    times_sized c xs m h.ends n from j q.0 q.1

some_of : {A : Type 0} (l : List A) (i : ℕ) → i < length l → A
some_of [] i h = absurd (omega arith)
some_of (a ∷ l) i h = a

module _ {A : Type 0} (c : Codec A) (m : ℕ) (h : HasSize c m) (xs : List ℕ) (n from : ℕ) (ok : was_read ((times n c).read xs from) ≡ true) where
  abbrev all : List A
  all = things ((times n c).read xs from)

  pub many : length all ≡ n
  many = let w = was_list ((times n c).read xs from) ok in times_length c xs n from w.0 all w.1

  pub nth_past : (i : ℕ) → n ≤ i → None ≡ slice_get all i
  nth_past i le = sym (slice_get_past all i (omega (arith, many)))

  nth_read : (i : ℕ) → i < n → (d : A) → c.read xs (from + m * i) ≡ got (get_or all i d) (from + m * i + m)
  nth_read i lt d = let w = was_list ((times n c).read xs from) ok in times_at c xs m h.ends n i from w.0 all d lt w.1

  pub nth_there : (i : ℕ) → i < n → from + m * i + m ≤ length xs
  nth_there i lt =
      let d = some_of all i (omega (arith, many)) in
      h.there xs (from + m * i) (from + m * i + m) (get_or all i d) (nth_read i lt d)

  pub nth_is : (i p : ℕ) (r : Result A Refusal) → i < n → told p r ≡ c.read xs (from + m * i) → result_ok r ≡ slice_get all i
  nth_is i p r lt e =
      let d = some_of all i (omega (arith, many)) in
      ap result_ok (told_ok r (c.read xs (from + m * i)) p (from + m * i + m) (get_or all i d) e (nth_read i lt d))
      ∙ sym (slice_get-get_or all i d (omega (arith, many)))
