-- What a reading that went well says of its parts.
use Rattle.std.proofs.Common.{◌≡◌, ℕ, Bool, true, false, cond, List, sym, refl, ap, arith}
use Rattle.codec.specs.Codec.{Outcome, got, refused, follow, map_out, Codec, chain}

pub never : {A : Type 0} {a : A} {j n p : ℕ} → refused n p ≡ got a j → ⊥
never e = let z : ◌≡◌ {A = ℕ} 0 1 = cc in omega arith

pub got_value : {A : Type 0} {a b : A} {i j : ℕ} → got a i ≡ got b j → a ≡ b
got_value e = cc

pub got_place : {A : Type 0} {a b : A} {i j : ℕ} → got a i ≡ got b j → i ≡ j
got_place e = cc

-- What a step that went well was made of.
pub follow_got :
    {A B : Type 0} (o : Outcome A) (f : A → ℕ → Outcome B) (b : B) (i : ℕ) → follow o f ≡ got b i → (a : A) × (j : ℕ) × (o ≡ got a j) × (f a j ≡ got b i)
follow_got (got a j) f b i e = (a, j, refl, e)
follow_got (refused n p) f b i e = absurd (never e)

pub map-got : {A B : Type 0} (f : A → B) (o : Outcome A) (b : B) (i : ℕ) → map_out f o ≡ got b i → (a : A) × (o ≡ got a i) × (f a ≡ b)
map-got f (got a j) b i e = (a, ap (got a) (got_place e), got_value e)
map-got f (refused n p) b i e = absurd (never e)

pub map-refused : {A B : Type 0} (f : A → B) (o : Outcome A) (n p : ℕ) → map_out f o ≡ refused n p → o ≡ refused n p
map-refused f (got a j) n p e = absurd (never (sym e))
map-refused f (refused m q) n p e = cc

pub cond_got :
    {A : Type 0} (t : Bool) (x : Outcome A) (n p : ℕ) (a : A) (j : ℕ) → cond t x (refused n p) ≡ got a j → (t ≡ true) × (x ≡ got a j)
cond_got true x n p a j e = (refl, e)
cond_got false x n p a j e = absurd (never e)

-- What a pair that was read was made of.
pub chain_got :
    {A B : Type 0} (c : Codec A) (d : A → Codec B) (xs : List ℕ) (k i : ℕ) (ab : A × B) → (chain c d).read xs k ≡ got ab i
    → (a : A) × (j : ℕ) × (b : B) × (c.read xs k ≡ got a j) × ((d a).read xs j ≡ got b i) × ((a, b) ≡ ab)
chain_got c d xs k i ab e =
    let p = follow_got (c.read xs k) _ ab i e in
    let q = map-got (λ b. (p.0, b)) ((d p.0).read xs p.1) ab i p.3 in
    (p.0, p.1, q.0, p.2, q.1, q.2)
