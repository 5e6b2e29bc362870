use Rattle.std.proofs.Common.{take}
use Rattle.std.specs.List.{flat_map}
use Rattle.plan.specs.Drafts.{memory_bytes}
use Rattle.plan.specs.Writes.{Puts}
use Rattle.plan.proofs.draft.methods.write_memories.Given as goal

abbrev pub invariant-loop-part : goal.invariant-loop-part
invariant-loop-part l = Puts l.initial.out l.out l.from l.k (flat_map memory_bytes (take l.part-index l.parts))
