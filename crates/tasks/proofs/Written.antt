-- What is read after one byte is written, and lists made from functions.
use Rattle.std.proofs.Common.{◌≡◌, ℕ, zero, suc, ◌+◌, ◌<◌, ◌≤◌, List, [], ◌∷◌, map, length, set, refl, ap, ◌∙◌, inl, arith}
use Rattle.std.specs.List.{range_with_len}
use Rattle.octets.specs.Bytes.{at}
use Rattle.octets.proofs.Puts.{set-put}
use Rattle.octets.proofs.Written.{at-put_other}

pub at-set_below : (m : ℕ) (xs : List ℕ) (k v j : ℕ) → k < length xs → j + m ≤ k → at m (set xs k v) j ≡ at m xs j
at-set_below m xs k v j h b = ap (λ ys. at m ys j) (set-put xs k v h) ∙ at-put_other m xs (v ∷ []) k j (omega arith) (inl b)

-- Lists made from functions that agree on the numbers in question.
pub map_same : {X : Type 0} (n : ℕ) (f g : ℕ → X) (a : ℕ) → ((k : ℕ) → a ≤ k → k < a + n → f k ≡ g k) → map f (range_with_len a n) ≡ map g (range_with_len a n)
map_same zero f g a h = refl
map_same (suc n) f g a h =
    ap (λ x. x ∷ map f (range_with_len (a + 1) n)) (h a (omega arith) (omega arith))
    ∙ ap (λ xs. g a ∷ xs) (map_same n f g (a + 1) (λ k l u. h k (omega arith) (omega arith)))

-- A list made from the function one further on.
pub map_next : {X : Type 0} (n : ℕ) (f : ℕ → X) (a : ℕ) → map (λ k. f (k + 1)) (range_with_len a n) ≡ map f (range_with_len (a + 1) n)
map_next zero f a = refl
map_next (suc n) f a = ap (λ xs. f (a + 1) ∷ xs) (map_next n f (a + 1))
