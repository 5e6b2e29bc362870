-- Kinds whose things all have the same size, and the things of a row by their places.
use Rattle.std.proofs.Common.{◌≡◌, ℕ, zero, suc, ◌+◌, ◌*◌, ◌<◌, cond, ◌&&◌, leb, List, [], ◌∷◌, length, get_or, take, sym, refl, ap, ◌∙◌, mul-suc, arith}
use Rattle.octets.specs.Bytes.{at}
use Rattle.codec.specs.Codec.{got, refused, follow, map_out, Codec, number, chain, read_each, each, times, named}
use Rattle.codec.proofs.Outcomes.{got_value, got_place, follow_got, map-got, cond_got}

abbrev pub Sized : {A : Type 0} → Codec A → ℕ → Type 0
Sized {A} c m = (xs : List ℕ) (k j : ℕ) (a : A) → c.read xs k ≡ got a j → j ≡ k + m

pub number_sized : (missing fault n lo hi : ℕ) → Sized (number missing fault n lo hi) n
number_sized missing fault n lo hi xs k j a e =
    let v = at n xs k in
    let t = leb lo v && leb v hi in
    let p = cond_got (leb (k + n) (length xs)) (cond t (got v (k + n)) (refused fault k)) missing (length xs) a j e in
    let q = cond_got t (got v (k + n)) fault k a j p.1 in
    sym (got_place q.1)

pub chain_sized : {A B : Type 0} (c : Codec A) (d : A → Codec B) (m n : ℕ) → Sized c m → ((a : A) → Sized (d a) n) → Sized (chain c d) (m + n)
chain_sized c d m n sc sd xs k i ab e =
    let p = follow_got (c.read xs k) _ ab i e in
    let q = map-got (λ b. (p.0, b)) ((d p.0).read xs p.1) ab i p.3 in
    omega (arith, sc xs k p.1 p.0 p.2, sd p.0 xs p.1 i q.0 q.1)

pub named_sized : {A B : Type 0} (to : A → B) (from : B → A) (c : Codec A) (m : ℕ) → Sized c m → Sized (named to from c) m
named_sized to from c m s xs k j b e = let q = map-got to (c.read xs k) b j e in s xs k j q.0 q.1

-- A thing for each of a row is as many things.
pub each_length :
    {X A : Type 0} (f : X → Codec A) (ys : List X) (xs : List ℕ) (k j : ℕ) (l : List A) → (each f ys).read xs k ≡ got l j → length l ≡ length ys
each_length f [] xs k j l e = ap length (sym (got_value e))
each_length f (y ∷ ys) xs k j l e =
    let p = follow_got ((f y).read xs k) _ l j e in
    let q = map-got (λ r. p.0 ∷ r) (read_each f ys xs p.1) l j p.3 in
    ap length (sym q.2) ∙ ap suc (each_length f ys xs p.1 j q.0 q.1)

module _ {A : Type 0} (c : Codec A) (xs : List ℕ) where
  -- The first of a row, and the rest.
  abbrev First : ℕ → ℕ → ℕ → List A → Type 0
  First n k j l = (a : A) × (i : ℕ) × (r : List A) × (c.read xs k ≡ got a i) × ((times n c).read xs i ≡ got r j) × (a ∷ r ≡ l)

  first_read : (n k j : ℕ) (l : List A) → (times (suc n) c).read xs k ≡ got l j → First n k j l
  first_read n k j l e =
      let p = follow_got (c.read xs k) _ l j e in
      let q = map-got (λ r. p.0 ∷ r) ((times n c).read xs p.1) l j p.3 in
      (p.0, p.1, q.0, p.2, q.1, q.2)

  pub times_length : (n k j : ℕ) (l : List A) → (times n c).read xs k ≡ got l j → length l ≡ n
  times_length zero k j l e = ap length (sym (got_value e))
  times_length (suc n) k j l e = let f = first_read n k j l e in ap length (sym f.5) ∙ ap suc (times_length n f.1 j f.2 f.4)

  pub times_sized : (m : ℕ) → Sized c m → (n k j : ℕ) (l : List A) → (times n c).read xs k ≡ got l j → j ≡ k + m * n
  times_sized m s zero k j l e = omega (arith, got_place e)
  times_sized m s (suc n) k j l e =
      let f = first_read n k j l e in
      omega (arith, times_sized m s n f.1 j f.2 f.4, s xs k f.1 f.0 f.3, mul-suc m n)

  -- A thing of a row stands behind those before it.
  pub times_item :
      (n i k j : ℕ) (l : List A) (d : A) → i < n → (times n c).read xs k ≡ got l j
      → (e : ℕ) × (f : ℕ) × ((times i c).read xs k ≡ got (take i l) e) × (c.read xs e ≡ got (get_or l i d) f)
  times_item zero i k j l d h e = absurd (omega arith)
  times_item (suc n) zero k j l d h e =
      let f = first_read n k j l e in
      (k, f.1, refl, f.3 ∙ ap (λ r. got (get_or r 0 d) f.1) f.5)
  times_item (suc n) (suc i) k j l d h e =
      let f = first_read n k j l e in
      let r = times_item n i f.1 j f.2 d (omega arith) f.4 in (
        r.0,
        r.1,
        ap (λ o. follow o (λ b q. map_out (λ t. b ∷ t) ((times i c).read xs q))) f.3
            ∙ ap (map_out (λ t. f.0 ∷ t)) r.2
            ∙ ap (λ t. got (take (suc i) t) r.0) f.5,
        r.3 ∙ ap (λ t. got (get_or t (suc i) d) r.1) f.5,
      )

  -- Where all have the same size, by its number.
  pub times_at :
      (m : ℕ) → Sized c m → (n i k j : ℕ) (l : List A) (d : A) → i < n → (times n c).read xs k ≡ got l j
      → c.read xs (k + m * i) ≡ got (get_or l i d) (k + m * i + m)
  times_at m s n i k j l d h e =
      let r = times_item n i k j l d h e in
      let here : r.0 ≡ k + m * i = times_sized m s i k r.0 (take i l) r.2 in
      let to : r.1 ≡ k + m * i + m = s xs r.0 r.1 (get_or l i d) r.3 ∙ ap (λ p. p + m) here in
      ap (c.read xs) (sym here) ∙ r.3 ∙ ap (got (get_or l i d)) to
