use Rattle.std.proofs.Common.{◌≡◌, ℕ, ◌+◌, ◌*◌, ◌<◌, length, get_or}
use Rattle.octets.specs.Bytes.{at}
use Rattle.tasks.proofs.record.Record.registers.Given as goal

-- The registers below r are read.
abbrev pub invariant-loop-r : goal.invariant-loop-r
invariant-loop-r l = (length l.value-items ≡ 32) × ((k : ℕ) → k < l.r → get_or l.value-items k 0 ≡ at 4 l.self.table.now (256 * l.self.number + 128 + 4 * k))
