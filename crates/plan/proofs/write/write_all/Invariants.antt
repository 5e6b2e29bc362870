use Rattle.std.proofs.Common.{take}
use Rattle.std.specs.List.{flat_map}
use Rattle.plan.specs.Writes.{Puts}
use Rattle.plan.proofs.write.write_all.Given as goal

abbrev pub invariant-loop-r : goal.invariant-loop-r
invariant-loop-r g l = Puts l.initial.out l.out l.from l.k (flat_map g.R.ToBytes.bytes (take l.r-index l.records))
