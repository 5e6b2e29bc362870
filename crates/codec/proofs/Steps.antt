-- Things of one kind, one behind the other, a step at a time; and what came of reading, seen through functions.
use Rattle.std.proofs.Common.{◌≡◌, ℕ, suc, ◌+◌, ◌-◌, ◌<◌, ◌≤◌, List, [], ◌∷◌, refl, ap, ◌∙◌, arith}
use Rattle.codec.specs.Codec.{Outcome, got, refused, follow, map_out, Codec, times}

pub map-map : {A B C : Type 0} (f : B → C) (g : A → B) (o : Outcome A) → map_out f (map_out g o) ≡ map_out (λ a. f (g a)) o
map-map f g (got a j) = refl
map-map f g (refused n p) = refl

pub map-follow : {A B C : Type 0} (f : B → C) (o : Outcome A) (g : A → ℕ → Outcome B) → map_out f (follow o g) ≡ follow o (λ a j. map_out f (g a j))
map-follow f (got a j) g = refl
map-follow f (refused n p) g = refl

-- Where reading goes on by the place alone, what was read does not matter.
pub follow_map : {A B C : Type 0} (f : A → B) (o : Outcome A) (r : ℕ → Outcome C) → follow (map_out f o) (λ b j. r j) ≡ follow o (λ a j. r j)
follow_map f (got a j) r = refl
follow_map f (refused n p) r = refl

pub follow_same :
    {A B : Type 0} (o : Outcome A) (g h : A → ℕ → Outcome B) → ((a : A) (j : ℕ) → g a j ≡ h a j) → follow o g ≡ follow o h
follow_same (got a j) g h e = e a j
follow_same (refused n p) g h e = refl

pub follow_chain :
    {A B C : Type 0} (o : Outcome A) (d : A → ℕ → Outcome B) (r : ℕ → Outcome C)
    → follow {A = A × B} (follow o (λ a j. map_out {B = A × B} (λ b. (a, b)) (d a j))) (λ ab i. r i) ≡ follow o (λ a j. follow (d a j) (λ b i. r i))
follow_chain (got a j) d r = follow_map (λ b. (a, b)) (d a j) r
follow_chain (refused n p) d r = refl

module _ {A B : Type 0} (n i : ℕ) (c : Codec A) (f : List A → B) (xs : List ℕ) (k : ℕ) where
  pub times_step :
      (j : ℕ) (a : A) → i < n → c.read xs k ≡ got a j
      → map_out f ((times (n - i) c).read xs k) ≡ map_out (λ l. f (a ∷ l)) ((times (n - (i + 1)) c).read xs j)
  times_step j a h e =
      let m : n - i ≡ suc (n - (i + 1)) = omega arith in
      ap (λ m. map_out f ((times m c).read xs k)) m
      ∙ ap (λ o. map_out f (follow o (λ b q. map_out (λ l. b ∷ l) ((times (n - (i + 1)) c).read xs q)))) e
      ∙ map-map f (λ l. a ∷ l) ((times (n - (i + 1)) c).read xs j)

  pub times_stop : (m p : ℕ) → i < n → c.read xs k ≡ refused m p → map_out f ((times (n - i) c).read xs k) ≡ refused m p
  times_stop m p h e =
      let s : n - i ≡ suc (n - (i + 1)) = omega arith in
      ap (λ m. map_out f ((times m c).read xs k)) s
      ∙ ap (λ o. map_out f (follow o (λ b q. map_out (λ l. b ∷ l) ((times (n - (i + 1)) c).read xs q)))) e

  pub times_done : n ≤ i → map_out f ((times (n - i) c).read xs k) ≡ got (f []) k
  times_done h = let z : n - i ≡ 0 = omega arith in ap (λ m. map_out f ((times m c).read xs k)) z
