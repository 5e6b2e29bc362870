use Rattle.std.proofs.Common.{◌≡◌, ℕ, ◌+◌, ◌*◌, ◌<◌, get_or}
use Rattle.octets.specs.Bytes.{at}
use Rattle.tasks.proofs.Elsewhere.{Outside}
use Rattle.tasks.proofs.record_mut.RecordMut.set_core.Given as goal

-- The registers below r are written, and all else is as it was.
abbrev pub invariant-loop-r : goal.invariant-loop-r
invariant-loop-r l =
    let i = l.initial.self.number in
    record {
      table : l.self.table.ghost_name ≡ l.initial.self.table.ghost_name;
      number : l.self.number ≡ i;
      outside : Outside (256 * i + 128) (256 * i + 256) l.initial.self.table.now l.self.table.now;
      written : (k : ℕ) → k < l.r → at 4 l.self.table.now (256 * i + 128 + 4 * k) ≡ get_or l.value-items k 0;
    }
