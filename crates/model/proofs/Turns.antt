-- Whose tick it is, by round, window and tick of the window. Assumes nothing.
use Rattle.std.proofs.Common.{◌≡◌, ℕ, zero, suc, ◌+◌, ◌-◌, ◌<◌, cond, ltb, List, [], ◌∷◌, take, Some, None, ap, ◌∙◌, zero-add, arith}
use lib.Arith.{digits_mod}
use Rattle.std.specs.List.{slice_get}
use Rattle.std.proofs.lemmas.Bool.{lt-ltb, le-ltb}
use Rattle.model.specs.declared.plan.Window.{Window}
use Rattle.model.specs.World.{round, turn_in, turn}
use Rattle.model.specs.Promise.{TurnsByWindow}

-- A tick of a window lies in the round.
in_round :
    (ws : List Window) (k j : ℕ) (w : Window) → slice_get ws k ≡ Some w → j < w.ticks → round (take k ws) + j < round ws
unfolding round
in_round [] k j w e h = let z : ◌≡◌ {A = ℕ} 0 1 = cc in absurd (omega arith)
in_round (v ∷ ws) zero j w e h = let is : v ≡ w = cc in rw is (omega arith)
in_round (v ∷ ws) (suc k) j w e h = let rest : round (take k ws) + j < round ws = in_round ws k j w e h in omega arith

turn_in_window :
    (s : ℕ) (ws : List Window) (k j : ℕ) (w : Window) → slice_get ws k ≡ Some w → j < w.ticks →
    turn_in s ws (round (take k ws) + j) ≡ cond (ltb j s) None (Some w.partition)
unfolding turn_in round
turn_in_window s [] k j w e h = let z : ◌≡◌ {A = ℕ} 0 1 = cc in absurd (omega arith)
turn_in_window s (v ∷ ws) zero j w e h =
    let is : v ≡ w = cc in
    rw (is, zero-add j, lt-ltb j w.ticks h)
turn_in_window s (v ∷ ws) (suc k) j w e h =
    let on : (v.ticks + round (take k ws)) + j - v.ticks ≡ round (take k ws) + j = omega arith in
    rw (le-ltb ((v.ticks + round (take k ws)) + j) v.ticks (omega arith), on) (turn_in_window s ws k j w e h)

pub turns_by_window : TurnsByWindow
unfolding turn
turns_by_window p n k j w e h =
    ap (turn_in p.system p.windows) (digits_mod n (in_round p.windows k j w e h))
    ∙ turn_in_window p.system p.windows k j w e h
