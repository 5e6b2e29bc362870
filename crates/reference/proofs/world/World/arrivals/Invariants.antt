use Rattle.std.proofs.Common.{◌≡◌, ℕ, List, drop}
use Rattle.model.specs.Tick.{came}
use Rattle.reference.specs.Whole.{plan_of, view_of}
use Rattle.reference.proofs.world.World.arrivals.Given as goal

-- What is left to come ends as the whole does.
abbrev pub invariant-loop-a : goal.invariant-loop-a
invariant-loop-a l =
    ((s : ℕ → List (ℕ × ℕ)) → came (drop l.a-index l.row) (view_of l.self s) ≡ came l.row (view_of l.initial.self s))
    × (plan_of l.self ≡ plan_of l.initial.self)
    × (l.self.time ≡ l.initial.self.time)
