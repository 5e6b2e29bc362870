use Rattle.std.proofs.Common.{ℕ, ◌*◌, ◌<◌}
use Rattle.octets.specs.Bytes.{at}
use Rattle.memory.proofs.tables.write_table.Given as goal

-- The entries before the one at hand are written.
abbrev pub invariant-loop-i : goal.invariant-loop-i
invariant-loop-i g l = (j : ℕ) → j < l.i → goal.F-post g l.fn.entry j (at 4 l.t (4 * j))
