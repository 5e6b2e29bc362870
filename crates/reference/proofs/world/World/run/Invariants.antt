use Rattle.std.proofs.Common.{◌≡◌, ℕ, ◌+◌, List, map, take, drop}
use Rattle.cpu.specs.Rv32i.{rv32i}
use Rattle.model.specs.Tick.{ticks}
use Rattle.reference.specs.View.{after_all}
use Rattle.reference.specs.Whole.{plan_of, view_of}
use Rattle.reference.proofs.world.World.run.Given as goal

-- What is left ends as the whole does; the plan stays; places from the one at hand on are as they were.
abbrev pub invariant-loop-k : goal.invariant-loop-k
invariant-loop-k l =
    (l.self.time ≡ l.initial.self.time + l.k)
    × ((s : ℕ → List (ℕ × ℕ))
    → ticks rv32i (plan_of l.initial.self) (view_of l.self (after_all s (take l.k l.shown))) (drop l.k (map (λ row. row.now) l.rows))
    ≡ ticks rv32i (plan_of l.initial.self) (view_of l.initial.self s) (map (λ row. row.now) l.rows))
    × (plan_of l.self ≡ plan_of l.initial.self)
    × (drop l.k l.shown ≡ drop l.k l.initial.shown)
