use Rattle.std.proofs.Common.{◌≡◌}
use Rattle.cpu.specs.Held.{core_of}
use Rattle.model.specs.declared.plan.State.TheVariants.{Ready}
use Rattle.partition.specs.Steps.{Bursted}
use Rattle.partition.proofs.burst.burst.Given as goal

abbrev pub invariant-loop-k : goal.invariant-loop-k
invariant-loop-k l =
    record {
      bursted :
          Bursted l.initial.b.bytes.now l.b.bytes.now (core_of l.initial.core) (core_of l.core) l.initial.shown l.shown l.stretch.from l.stretch.ticks
          (record { ticks = l.k; «end» = Ready });
      bytes : l.b.bytes.ghost_name ≡ l.initial.b.bytes.ghost_name;
    }
