-- Many ticks, one after the other.
use Rattle.std.proofs.Common.{◌≡◌, ℕ, ◌+◌, ◌<◌, List, [], ◌∷◌, ◌++◌, length, take, drop, set, Option, sym, refl, ap, ◌∙◌, arith}
use Rattle.std.proofs.lemmas.List.{take_more_set, drop-drop, drop-set-lt}
use Rattle.cpu.specs.Core.{Core}
use Rattle.cpu.specs.Rv32i.{rv32i}
use Rattle.model.specs.declared.plan.Arrival.{Arrival}
use Rattle.model.specs.World.{Plan, World}
use Rattle.model.specs.Tick.{tick, ticks}
use Rattle.reference.specs.declared.shown.Shown.{Shown}
use Rattle.reference.specs.View.{after, after_all}

after_all_push : (bs : List (Option Shown)) (s : ℕ → List (ℕ × ℕ)) (b : Option Shown) → after_all s (bs ++ b ∷ []) ≡ after (after_all s bs) b
unfolding after_all
after_all_push [] s b = refl
after_all_push (c ∷ bs) s b = after_all_push bs (after s c) b

-- What has been shown when one tick more has shown.
pub after_more : (shown : List (Option Shown)) (k : ℕ) (b : Option Shown) (s : ℕ → List (ℕ × ℕ)) → k < length shown → after_all s (take (k + 1) (set shown k b)) ≡ after (after_all s (take k shown)) b
after_more shown k b s h = ap (after_all s) (take_more_set shown k b h) ∙ after_all_push (take k shown) s b

-- Places behind the one that was written are as they were.
pub behind : {X : Type 0} (xs ys : List X) (k : ℕ) (x : X) → drop k xs ≡ drop k ys → drop (k + 1) (set xs k x) ≡ drop (k + 1) ys
behind xs ys k x e = drop-set-lt (k + 1) xs k x (omega arith) ∙ sym (drop-drop 1 k xs) ∙ ap (drop 1) e ∙ drop-drop 1 k ys

-- One tick of those that are left, and none left.
pub run_more :
    (p o : Plan) (w v end : World Core) (row : List Arrival) (left rest : List (List Arrival)) → o ≡ p → v ≡ tick rv32i o w row → left ≡ row ∷ rest → ticks rv32i p w left ≡ end → ticks rv32i p v rest ≡ end
unfolding ticks
run_more p o w v end row left rest e t l h =
    ap (λ z. ticks rv32i p z rest) (t ∙ ap (λ z. tick rv32i z w row) e) ∙ ap (ticks rv32i p w) (sym l) ∙ h

pub run_all : (p : Plan) (w end : World Core) (left : List (List Arrival)) → left ≡ [] → ticks rv32i p w left ≡ end → w ≡ end
unfolding ticks
run_all p w end left l h = sym (ap (ticks rv32i p w) l) ∙ h
