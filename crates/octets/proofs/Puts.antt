-- A row after a write.
use Rattle.std.proofs.Common.{◌≡◌, ℕ, suc, ◌+◌, ◌-◌, ◌<◌, ◌≤◌, ◌⊎◌, List, [], ◌∷◌, ◌++◌, length, get_or, take, drop, set, sym, refl, ap, ◌∙◌, ⊎_elim, append_assoc, arith, rules}
use borrow.Rule.Slice.PartMut.{put_mid}
use Rattle.std.specs.List.{between}
use Rattle.std.proofs.lemmas.List.{places, drop-drop, drop_at, take_at, length-append, length-take-le, set_split}
use Rattle.std.proofs.lemmas.Slice.{between_is, take-put_mid, take-put_mid_below, drop-put_mid}
use Rattle.octets.specs.Bytes.{put}

-- What a write to a part of a lent slice leaves.
pub put_is : (xs ys : List ℕ) (a k : ℕ) → length ys ≡ k → put_mid a k xs ys ≡ put xs a ys
unfolding put
put_is xs ys a k e = ap (λ zs. take a xs ++ (ys ++ zs)) (drop-drop k a xs ∙ ap (λ n. drop (a + n) xs) (sym e))

pub length-put : (xs ys : List ℕ) (k : ℕ) → k + length ys ≤ length xs → length (put xs k ys) ≡ length xs
unfolding put
length-put xs ys k h = search (rules, places)

pub get_or-put_below : (xs ys : List ℕ) (k i d : ℕ) → k + length ys ≤ length xs → i < k → get_or (put xs k ys) i d ≡ get_or xs i d
unfolding put
get_or-put_below xs ys k i d h lt = grind (arith, places)

pub get_or-put_above : (xs ys : List ℕ) (k i d : ℕ) → k + length ys ≤ length xs → k + length ys ≤ i → get_or (put xs k ys) i d ≡ get_or xs i d
unfolding put
get_or-put_above xs ys k i d h le = grind (arith, places)

pub between_put : (xs ys : List ℕ) (k n : ℕ) → k + length ys ≤ length xs → length ys ≡ n → between k (k + n) (put xs k ys) ≡ ys
unfolding put
between_put xs ys k n h e =
    ap (λ zs. take (k + n - k) zs) (drop_at (take k xs) (ys ++ drop (k + length ys) xs) k (length-take-le k xs (omega arith)))
    ∙ take_at ys (drop (k + length ys) xs) (k + n - k) (omega arith)

-- A part that the write does not touch.
pub between-put_other :
    (xs ys : List ℕ) (k j m : ℕ) → k + length ys ≤ length xs → (j + m ≤ k) ⊎ (k + length ys ≤ j) → between j (j + m) (put xs k ys) ≡ between j (j + m) xs
between-put_other xs ys k j m h o =
    ⊎_elim
    (λ (before : j + m ≤ k).
    between_is (put xs k ys) j (j + m)
    ∙ ap (λ zs. drop j zs) (ap (λ zs. take (j + m) zs) (sym same) ∙ take-put_mid_below k (length ys) xs ys (j + m) before (omega arith))
    ∙ sym (between_is xs j (j + m)))
    (λ (behind : k + length ys ≤ j).
    ap (λ zs. take (j + m - j) zs) (ap (λ zs. drop j zs) (sym same) ∙ drop-put_mid k (length ys) xs ys j behind (omega arith) refl))
    o
  where
    same : put_mid k (length ys) xs ys ≡ put xs k ys
    same = put_is xs ys k (length ys) refl

pub set-put : (xs : List ℕ) (k v : ℕ) → k < length xs → set xs k v ≡ put xs k (v ∷ [])
unfolding put
set-put xs k v h = let e : suc k ≡ k + 1 = omega arith in set_split xs k v h ∙ ap (λ n. take k xs ++ v ∷ drop n xs) e

-- A write right behind another is one write.
pub put-behind :
    (xs ys zs : List ℕ) (k j : ℕ) → k + length ys ≡ j → j + length zs ≤ length xs → put (put xs k ys) j zs ≡ put xs k (ys ++ zs)
unfolding put
put-behind xs ys zs k j e h =
    let sum : k + length (ys ++ zs) ≡ j + length zs = omega (arith, length-append ys zs) in
    ap (λ ws. take j ws ++ (zs ++ drop (j + length zs) ws)) (sym same)
    ∙ ap (λ ws. ws ++ (zs ++ drop (j + length zs) (put_mid k (length ys) xs ys))) (take-put_mid k (length ys) xs ys j (sym e) (omega arith))
    ∙ ap (λ ws. (take k xs ++ ys) ++ (zs ++ ws)) (drop-put_mid k (length ys) xs ys (j + length zs) (omega arith) (omega arith) refl)
    ∙ ap (λ m. (take k xs ++ ys) ++ (zs ++ drop m xs)) (sym sum)
    ∙ simp append_assoc
  where
    same : put_mid k (length ys) xs ys ≡ put xs k ys
    same = put_is xs ys k (length ys) refl
