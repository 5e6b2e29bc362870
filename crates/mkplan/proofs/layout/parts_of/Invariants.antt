use Rattle.std.proofs.Common.{◌≡◌, map, take, vec_len}
use Rattle.plan.specs.Drafts.{given}
use Rattle.mkplan.specs.Handed.{handed}
use Rattle.mkplan.proofs.layout.parts_of.Given as goal

abbrev pub invariant-loop-loaded : goal.invariant-loop-loaded
invariant-loop-loaded l =
    record {
      len : vec_len l.parts ≡ l.loaded-index;
      each : map given l.parts.items ≡ map handed (take l.loaded-index l.partitions);
    }
