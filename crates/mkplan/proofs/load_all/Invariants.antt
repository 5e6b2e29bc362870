use Rattle.std.proofs.Common.{◌≡◌, vec_len}
use Rattle.mkplan.proofs.load_all.Given as goal

abbrev pub invariant-loop-named : goal.invariant-loop-named
invariant-loop-named l = vec_len l.all ≡ l.named-index
