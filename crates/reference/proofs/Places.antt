-- Memories one after the other: where each lies, and what a write to one leaves of the others.
use Rattle.std.proofs.Common.{◌≡◌, ℕ, zero, suc, ◌+◌, ◌-◌, ◌*◌, ◌<◌, ◌≤◌, min, ◌≢◌, ◌⊎◌, List, [], ◌∷◌, ◌++◌, length, map, fold, get_or, take, drop, set, sym, refl, ap, ◌∙◌, inl, inr, ⊎_elim, le_of_suc-le-suc, not-suc-le-zero, add-zero, add_assoc, suc-add, arith, rules}
use Rattle.std.specs.List.{between}
use Rattle.std.proofs.lemmas.List.{places, same_lists, drop-drop, length-drop, nil_from_length, take-append-drop, get_or_past, get_or-set_same, get_or-set_other}
use Rattle.std.proofs.lemmas.Bool.{cases_lt}
use Rattle.octets.specs.Bytes.{put}
use Rattle.reference.specs.Memories.{memories_in}
use Rattle.reference.specs.Place.{place}

-- The bytes of a memory.
pub memory_at : (ps bs : List ℕ) (q : ℕ) → q < length ps → get_or (memories_in ps bs) q [] ≡ take (get_or ps q 0 * 4096) (drop (place ps q) bs)
unfolding memories_in place
memory_at [] bs q h = refl
memory_at (p ∷ ps) bs zero h = refl
memory_at (p ∷ ps) bs (suc q) h = memory_at ps (drop (p * 4096) bs) q (omega arith) ∙ ap (take (get_or ps q 0 * 4096)) (drop-drop (place ps q) (p * 4096) bs)

-- Writes to a row, in front and behind.
take_put : (bs ys : List ℕ) (n k : ℕ) → n + k + length ys ≤ length bs → take n (put bs (n + k) ys) ≡ take n bs
unfolding put
take_put bs ys n k h = same_lists _ _ (search (rules, places)) (λ i d l. grind (arith, places))

drop-put : (bs ys : List ℕ) (n k : ℕ) → n + k + length ys ≤ length bs → drop n (put bs (n + k) ys) ≡ put (drop n bs) k ys
unfolding put
drop-put bs ys n k h = same_lists _ _ (search (rules, places)) (λ i d l. grind (arith, places))

-- A write of the front of a row, or of all of it.
take_whole : (bs ys : List ℕ) (n : ℕ) → length ys ≡ min n (length bs) → take n (put bs 0 ys) ≡ ys
unfolding put
take_whole bs ys n e = same_lists _ _ (search (rules, places)) (λ i d l. grind (arith, places))

drop-whole : (bs ys : List ℕ) (n : ℕ) → length ys ≡ min n (length bs) → drop n (put bs 0 ys) ≡ drop n bs
unfolding put
drop-whole bs ys n e = same_lists _ _ (search (rules, places)) (λ i d l. grind (arith, places))

-- A write of a whole memory is a write of that memory, and of no other.
pub memory_put :
    (ps bs ys : List ℕ) (q : ℕ) → q < length ps → place ps q + length ys ≤ length bs → length ys ≡ min (get_or ps q 0 * 4096) (length bs - place ps q)
    → memories_in ps (put bs (place ps q) ys) ≡ set (memories_in ps bs) q ys
unfolding memories_in place
memory_put [] bs ys q h l e = refl
memory_put (p ∷ ps) bs ys zero h l e = λ j. take_whole bs ys (p * 4096) (omega arith) j ∷ memories_in ps (drop-whole bs ys (p * 4096) (omega arith) j)
memory_put (p ∷ ps) bs ys (suc q) h l e =
    (λ j.
    take_put bs ys (p * 4096) (place ps q) l j
    ∷ (ap (memories_in ps) (drop-put bs ys (p * 4096) (place ps q) l)
    ∙ memory_put ps (drop (p * 4096) bs) ys q (omega arith) (simp length-drop (omega arith)) (e ∙ sym (simp length-drop (omega arith)))) j)

length-memories : (ps bs : List ℕ) → length (memories_in ps bs) ≡ length ps
unfolding memories_in
length-memories [] bs = refl
length-memories (p ∷ ps) bs = ap suc (length-memories ps (drop (p * 4096) bs))

put_nothing : (bs ys : List ℕ) (a : ℕ) → length ys ≡ 0 → put bs a ys ≡ bs
unfolding put
put_nothing bs ys a h =
    let none : ys ≡ [] = nil_from_length ys h in
    ap (λ zs. take a bs ++ (zs ++ drop (a + length zs) bs)) none ∙ ap (λ n. take a bs ++ drop n bs) (add-zero a) ∙ take-append-drop a bs

cut : (bs : List ℕ) (p n a e : ℕ) → a ≡ min p (length bs) → e ≡ min (p + n) (length bs) → take n (drop p bs) ≡ take (e - a) (drop a bs)
cut bs p n a e ea ee = same_lists _ _ (search (rules, places)) (λ i d l. grind (arith, places))

module _ (ps bs : List ℕ) (q a e : ℕ) (begin : a ≡ min (place ps q) (length bs)) (end : e ≡ min (place ps q + get_or ps q 0 * 4096) (length bs)) where
  -- The part from a to e is the memory of partition q, and what is written there is that memory.
  pub region_is : get_or (memories_in ps bs) q [] ≡ between a e bs
  region_is =
      ⊎_elim
      (λ (h : q < length ps). memory_at ps bs q h ∙ cut bs (place ps q) (get_or ps q 0 * 4096) a e begin end)
      (λ (h : length ps ≤ q).
      let none : e - a ≡ 0 = omega (arith, get_or_past ps q 0 h) in
      get_or_past (memories_in ps bs) q [] (omega (arith, length-memories ps bs)) ∙ ap (λ n. take n (drop a bs)) (sym none))
      (cases_lt q (length ps))

  -- Either there is such a memory, and it begins in the row, or the part is empty.
  there : (ys : List ℕ) → length ys ≡ e - a → ((q < length ps) × (a ≡ place ps q) × (memories_in ps (put bs a ys) ≡ set (memories_in ps bs) q ys)) ⊎ ((ys ≡ []) × (put bs a ys ≡ bs))
  there ys l =
      ⊎_elim
      (λ (h : q < length ps).
      ⊎_elim
      (λ (o : length bs < place ps q). let none : length ys ≡ 0 = omega arith in inr (nil_from_length ys none, put_nothing bs ys a none))
      (λ (o : place ps q ≤ length bs).
      let same : a ≡ place ps q = omega arith in
      inl (h, same, ap (λ n. memories_in ps (put bs n ys)) same ∙ memory_put ps bs ys q h (omega arith) (omega arith)))
      (cases_lt (length bs) (place ps q)))
      (λ (h : length ps ≤ q). let none : length ys ≡ 0 = omega (arith, get_or_past ps q 0 h) in inr (nil_from_length ys none, put_nothing bs ys a none))
      (cases_lt q (length ps))

  pub region_put : (ys : List ℕ) → length ys ≡ e - a → get_or (memories_in ps (put bs a ys)) q [] ≡ ys
  region_put ys l =
      ⊎_elim
      (λ (w : (q < length ps) × (a ≡ place ps q) × (memories_in ps (put bs a ys) ≡ set (memories_in ps bs) q ys)).
      ap (λ zs. get_or zs q []) w.2 ∙ get_or-set_same (memories_in ps bs) q ys [] (omega (arith, w.0, length-memories ps bs)))
      (λ (w : (ys ≡ []) × (put bs a ys ≡ bs)).
      let none : e - a ≡ 0 = omega (arith, ap length w.0) in
      ap (λ zs. get_or (memories_in ps zs) q []) w.1 ∙ region_is ∙ ap (λ n. take n (drop a bs)) none ∙ sym w.0)
      (there ys l)

  pub region_other : (ys : List ℕ) (j : ℕ) → length ys ≡ e - a → j ≢ q → get_or (memories_in ps (put bs a ys)) j [] ≡ get_or (memories_in ps bs) j []
  region_other ys j l h =
      ⊎_elim
      (λ (w : (q < length ps) × (a ≡ place ps q) × (memories_in ps (put bs a ys) ≡ set (memories_in ps bs) q ys)).
      ap (λ zs. get_or zs j []) w.2 ∙ get_or-set_other (memories_in ps bs) q j ys [] h)
      (λ (w : (ys ≡ []) × (put bs a ys ≡ bs)). ap (λ zs. get_or (memories_in ps zs) j []) w.1)
      (there ys l)

-- The sum of the pages before, which stops at a largest number.
pub fold_place : (most : ℕ) (ps : List ℕ) (q a : ℕ) → a ≤ most → fold (λ s n. min (s + n) most) a (map (λ n. n * 4096) (take q ps)) ≡ min (a + place ps q) most
unfolding place
fold_place most [] zero a h = omega arith
fold_place most [] (suc q) a h = omega arith
fold_place most (p ∷ ps) zero a h = omega arith
fold_place most (p ∷ ps) (suc q) a h = fold_place most ps q (min (a + p * 4096) most) (omega arith) ∙ omega arith

-- The sum of the pages before, of none, of one more, and past the last.
pub place_none : (ps : List ℕ) → place ps 0 ≡ 0
unfolding place
place_none [] = refl
place_none (p ∷ ps) = refl

pub place_more : (ps : List ℕ) (q : ℕ) → q < length ps → place ps (q + 1) ≡ place ps q + get_or ps q 0 * 4096
unfolding place
place_more [] q h = absurd (not-suc-le-zero h)
place_more (p ∷ ps) zero h = omega (arith, place_none ps)
place_more (p ∷ ps) (suc q) h =
    ap (place (p ∷ ps)) (suc-add q 1) ∙ ap (λ n. p * 4096 + n) (place_more ps q (le_of_suc-le-suc h)) ∙ sym (add_assoc (p * 4096) (place ps q) (get_or ps q 0 * 4096))

pub place_past : (ps : List ℕ) (q : ℕ) → length ps ≤ q → place ps q ≡ place ps (length ps)
unfolding place
place_past [] q h = refl
place_past (p ∷ ps) zero h = absurd (not-suc-le-zero h)
place_past (p ∷ ps) (suc q) h = ap (λ n. p * 4096 + n) (place_past ps q (le_of_suc-le-suc h))

pub place_min : (ps : List ℕ) (q i : ℕ) → i ≡ min q (length ps) → place ps i ≡ place ps q
place_min ps q i e =
    ⊎_elim
    (λ (h : q < length ps). let same : i ≡ q = omega arith in ap (place ps) same)
    (λ (h : length ps ≤ q). let same : i ≡ length ps = omega arith in ap (place ps) same ∙ sym (place_past ps q h))
    (cases_lt q (length ps))
