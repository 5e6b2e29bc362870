use Rattle.std.proofs.Common.{◌≡◌, ◌+◌, ◌-◌, ◌*◌, ◌≤◌}
use Rattle.codec.specs.Codec.{times, map_out}
use Rattle.plan.specs.Ends.{pages_of}
use Rattle.plan.specs.Layout.{partition}
use Rattle.plan.proofs.reader.Reader.pass_parts.Given as goal

-- What is left ends as the whole does, with the pages so far.
abbrev pub invariant-loop-i : goal.invariant-loop-i
invariant-loop-i l =
    (map_out (λ ps. l.pages + pages_of ps) ((times (l.n - l._i) partition).read l.r.bytes.now l.r.at)
    ≡ map_out pages_of ((times l.n partition).read l.initial.r.bytes.now l.initial.r.at))
    × (l.r.bytes.now ≡ l.initial.r.bytes.now)
    × (l.pages ≤ 65535 * l._i)
