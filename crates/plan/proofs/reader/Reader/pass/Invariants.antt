use Rattle.std.proofs.Common.{◌≡◌, ◌-◌}
use Rattle.codec.specs.Codec.{times}
use Rattle.plan.specs.Ends.{seen}
use Rattle.plan.proofs.reader.Reader.pass.Given as goal

-- What is left ends as the whole does.
abbrev pub invariant-loop-i : goal.invariant-loop-i
invariant-loop-i g l =
    let c = g.R.FromBytes.codec l.around in
    (seen ((times (l.n - l._i) c).read l.r.bytes.now l.r.at) ≡ seen ((times l.n c).read l.initial.r.bytes.now l.initial.r.at))
    × (l.r.bytes.now ≡ l.initial.r.bytes.now)
