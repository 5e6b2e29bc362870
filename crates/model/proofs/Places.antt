-- Lists by place: what stands at a place, if anything does, before and after one place is set. Assumes nothing.
use Rattle.std.proofs.Common.{◌≡◌, ℕ, zero, suc, ◌<◌, ◌≤◌, cond, eqb, ◌⊎◌, List, [], ◌∷◌, length, get_or, set, replicate, Some, None, Option, unwrap_or, sym, refl, ap, ◌∙◌, subst, inl, inr, arith}
use lib.Dec.{eqb-zero-suc, eqb-suc-zero, eqb-suc-suc}
use Rattle.std.specs.List.{slice_get}
use Rattle.std.specs.Option.{option_map}
use Rattle.std.proofs.lemmas.List.{get_or-set_same, get_or-set_other, set_past}
use Rattle.std.proofs.lemmas.Bool.{cases_eq, cases_lt, ne_eqb}

module _ {X : Type 0} where
  pub get_or-nth : (xs : List X) (k : ℕ) (d : X) → get_or xs k d ≡ unwrap_or (slice_get xs k) d
  get_or-nth [] k d = refl
  get_or-nth (x ∷ xs) zero d = refl
  get_or-nth (x ∷ xs) (suc k) d = get_or-nth xs k d

  pub get_or_alike : (xs ys : List X) (k : ℕ) (d : X) → slice_get xs k ≡ slice_get ys k → get_or xs k d ≡ get_or ys k d
  get_or_alike xs ys k d e = get_or-nth xs k d ∙ (ap (λ o. unwrap_or o d) e ∙ sym (get_or-nth ys k d))

  pub nth_below : (xs : List X) (k : ℕ) (x : X) → slice_get xs k ≡ Some x → k < length xs
  nth_below [] k x e = let z : ◌≡◌ {A = ℕ} 0 1 = cc in omega arith
  nth_below (y ∷ ys) zero x e = omega arith
  nth_below (y ∷ ys) (suc k) x e = let h : k < length ys = nth_below ys k x e in omega arith

  pub nth_beyond : (xs : List X) (k : ℕ) → slice_get xs k ≡ None → length xs ≤ k
  nth_beyond [] k e = omega arith
  nth_beyond (y ∷ ys) zero e = let z : ◌≡◌ {A = ℕ} 0 1 = cc in omega arith
  nth_beyond (y ∷ ys) (suc k) e = let h : length ys ≤ k = nth_beyond ys k e in omega arith

  pub mapped_same : (o : Option X) → option_map (λ x. x) o ≡ o
  mapped_same None = refl
  mapped_same (Some x) = refl

  -- Place k when place i has changed so.
  pub nth-changed :
      (f : X → X) (xs : List X) (i k : ℕ) (d : X) →
      slice_get (set xs i (f (get_or xs i d))) k ≡ option_map (λ x. cond (eqb i k) (f x) x) (slice_get xs k)
  nth-changed f [] i k d = refl
  nth-changed f (x ∷ xs) zero zero d = refl
  nth-changed f (x ∷ xs) zero (suc k) d = simp (eqb-zero-suc k) (sym (mapped_same (slice_get xs k)))
  nth-changed f (x ∷ xs) (suc i) zero d = simp (eqb-suc-zero i)
  nth-changed f (x ∷ xs) (suc i) (suc k) d = simp (eqb-suc-suc i k) (nth-changed f xs i k d)

  pub nth-set : (xs : List X) (i k : ℕ) (x : X) → slice_get (set xs i x) k ≡ option_map (λ y. cond (eqb i k) x y) (slice_get xs k)
  nth-set xs i k x = nth-changed (λ _. x) xs i k x

  pub nth-set_other : (xs : List X) (i k : ℕ) (x : X) → (i ≡ k → ⊥) → slice_get (set xs i x) k ≡ slice_get xs k
  nth-set_other xs i k x h = nth-set xs i k x ∙ simp (ne_eqb i k h) (mapped_same (slice_get xs k))

  -- Two lists that are alike at a place are so after the same is set in both, wherever.
  pub nth-set_alike : (xs ys : List X) (i k : ℕ) (x : X) → slice_get xs k ≡ slice_get ys k → slice_get (set xs i x) k ≡ slice_get (set ys i x) k
  nth-set_alike xs ys i k x e = nth-set xs i k x ∙ (ap (option_map (λ y. cond (eqb i k) x y)) e ∙ sym (nth-set ys i k x))

  -- What holds of what is set, and of what stood there, holds after.
  pub set_keeps :
      (R : X → Type 0) (xs : List X) (i k : ℕ) (x d : X) → (k ≡ i → R x) → R (get_or xs k d) → R (get_or (set xs i x) k d)
  set_keeps R xs i k x d new old = go (cases_eq k i) (cases_lt i (length xs))
    where
      go : (k ≡ i) ⊎ (k ≡ i → ⊥) → (i < length xs) ⊎ (length xs ≤ i) → R (get_or (set xs i x) k d)
      go (inl e) (inl h) = subst (λ j. R (get_or (set xs i x) j d)) (sym e) (subst R (sym (get_or-set_same xs i x d h)) (new e))
      go (inl e) (inr h) = subst (λ l. R (get_or l k d)) (sym (set_past xs i x h)) old
      go (inr a) _ = subst R (sym (get_or-set_other xs i k x d a)) old

  pub nth-replicate :
      {Y : Type 0} (ys : List Y) (k : ℕ) (x : X) → slice_get (replicate (length ys) x) k ≡ option_map (λ _. x) (slice_get ys k)
  nth-replicate [] k x = refl
  nth-replicate (y ∷ ys) zero x = refl
  nth-replicate (y ∷ ys) (suc k) x = nth-replicate ys k x

  pub get_or-replicate-same : (n k : ℕ) (x : X) → get_or (replicate n x) k x ≡ x
  get_or-replicate-same zero k x = refl
  get_or-replicate-same (suc n) zero x = refl
  get_or-replicate-same (suc n) (suc k) x = get_or-replicate-same n k x

pub mapped_mapped :
    {X Y Z : Type 0} (g : Y → Z) (f : X → Y) (o : Option X) → option_map g (option_map f o) ≡ option_map (λ x. g (f x)) o
mapped_mapped g f None = refl
mapped_mapped g f (Some x) = refl
