use Rattle.std.proofs.Common.{map}
use Rattle.cpu.specs.Rv32i.{rv32i}
use Rattle.model.specs.Tick.{looked}
use Rattle.reference.specs.Parts.{run_in, task_of}
use Rattle.reference.proofs.Looking.{Done}
use Rattle.reference.proofs.part.Partition.look.Given as goal

-- The tasks before the one at hand have been looked at, the others are as they were.
abbrev pub invariant-loop-i : goal.invariant-loop-i
invariant-loop-i l = Done (looked rv32i (map task_of l.initial.task-items) 0 l.time (map run_in l.initial.task-items)) l.initial.task-items l.i l.task-items
