use Rattle.std.proofs.Common.{◌≡◌, ◌-◌, ◌≤◌}
use Rattle.partition.specs.Shown.{Ran}
use Rattle.partition.proofs.own.own_ticks.Given as goal

abbrev pub invariant-loop-done : goal.invariant-loop-done
invariant-loop-done l =
    record {
      ran : Ran l.initial.b.bytes.now l.b.bytes.now l.initial.shown l.shown l.stretch.from l.done;
      bytes : l.b.bytes.ghost_name ≡ l.initial.b.bytes.ghost_name;
      within : l.done ≤ l.stretch.ticks;
    }

abbrev pub decreases-loop-done : goal.decreases-loop-done
decreases-loop-done l = l.stretch.ticks - l.done
