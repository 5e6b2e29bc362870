use Rattle.std.proofs.Common.{arith}
use Rattle.codec.specs.Codec.{Bytes}
use Rattle.plan.proofs.Exact.{taken_is, exactly, says}
use Rattle.plan.proofs.check.check.Goals as goal

pub returns : goal.returns
returns c =
    let xs = c.args.b.now in
    let t = taken_is xs _ c.walk.result c.walk.ensures.value in
    let bs : Bytes xs = λ i. omega (arith, c.type_inv.b i) in
    record { value = c.walk.ensures.value; taken = t; exact = exactly xs _ bs t; plan = says xs bs }
