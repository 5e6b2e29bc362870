use Rattle.std.proofs.Common.{map}
use Rattle.cpu.specs.Rv32i.{rv32i}
use Rattle.model.specs.Tick.{new_runs}
use Rattle.reference.specs.Parts.{task_of}
use Rattle.reference.proofs.Looking.{Done}
use Rattle.reference.proofs.part.Partition.renew.Given as goal

-- The tasks before the one at hand are new, the others are as they were.
abbrev pub invariant-loop-i : goal.invariant-loop-i
invariant-loop-i l = Done (new_runs rv32i 0 (map task_of l.initial.task-items)) l.initial.task-items l.i l.task-items
