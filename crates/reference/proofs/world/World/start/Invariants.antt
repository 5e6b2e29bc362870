use Rattle.std.proofs.Common.{◌≡◌, ℕ, ◌<◌, [], map, Some}
use Rattle.std.specs.List.{slice_get}
use Rattle.reference.specs.declared.part.Partition.{Partition}
use Rattle.reference.specs.declared.queue.Queue.{Queue}
use Rattle.reference.specs.Letters.{sents_of}
use Rattle.reference.specs.Own.{plans_of}
use Rattle.reference.specs.Parts.{New, tasks_of}
use Rattle.reference.proofs.world.World.start.Given as goal

-- Those before the one at hand are as at the start.
abbrev pub invariant-loop-part : goal.invariant-loop-part
invariant-loop-part l = ((j : ℕ) (x : Partition) → j < l.part-index → slice_get l.parts j ≡ Some x → New x) × (map tasks_of l.parts ≡ map tasks_of l.initial.parts)

abbrev pub invariant-loop-channel : goal.invariant-loop-channel
invariant-loop-channel l =
    ((j : ℕ) (x : Queue) → j < l.channel-index → slice_get l.channels j ≡ Some x → sents_of x ≡ []) × (plans_of l.channels ≡ plans_of l.initial.channels)
