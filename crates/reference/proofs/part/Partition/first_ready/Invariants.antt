use Rattle.std.proofs.Common.{◌≡◌, drop}
use Rattle.model.specs.Tick.{first_ready}
use Rattle.reference.specs.Parts.{tasks_of, runs_of}
use Rattle.reference.proofs.part.Partition.first_ready.Given as goal

-- The best of the tasks from the one at hand on.
abbrev pub invariant-loop-i : goal.invariant-loop-i
invariant-loop-i l = l.best ≡ first_ready (tasks_of l.self) l.i (drop l.i (runs_of l.self))
