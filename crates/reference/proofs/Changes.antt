-- One task of a partition changes.
use Rattle.std.proofs.Common.{◌≡◌, ℕ, zero, suc, List, [], ◌∷◌, set, Some, sym, ap, ◌∙◌, arith}
use Rattle.std.specs.List.{slice_get}
use Rattle.cpu.specs.Core.{Core}
use Rattle.model.specs.World.{Run}
use Rattle.model.specs.Tick.{update}

update_is : {X : Type 0} (xs : List X) (i : ℕ) (x : X) (g : X → X) → slice_get xs i ≡ Some x → update xs i g ≡ set xs i (g x)
unfolding update
update_is [] i x g e = let z : ◌≡◌ {A = ℕ} 0 1 = cc in absurd (omega arith)
update_is (y ∷ ys) zero x g e = let same : y ≡ x = cc in ap (λ z. g z ∷ ys) same
update_is (y ∷ ys) (suc i) x g e = ap (λ zs. y ∷ zs) (update_is ys i x g e)

pub run_changed : (rs qs : List (Run Core)) (i : ℕ) (r r' : Run Core) (f : Run Core → Run Core) → slice_get rs i ≡ Some r → qs ≡ set rs i r' → r' ≡ f r → qs ≡ update rs i f
run_changed rs qs i r r' f found e p = e ∙ ap (set rs i) p ∙ sym (update_is rs i r f found)
