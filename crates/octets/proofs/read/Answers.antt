use Rattle.std.proofs.Common.{ap, ◌∙◌}
use Rattle.octets.specs.Bytes.{at}
use Rattle.octets.proofs.read.Goals as goal

pub returns : goal.returns
unfolding at
returns g c = record { value = c.of_bytes.ensures ∙ ap (λ n. at n c.args.b.now c.args.k) c.SIZE.ensures }
