use Rattle.std.proofs.Common.{arith}
use Rattle.octets.proofs.Numbers.{length-bytes_of}
use Rattle.plan.proofs.write.put.Goals as goal

pub returns-clause-puts : goal.returns-clause-puts
returns-clause-puts g c =
    let n = length-bytes_of g.N.Number.SIZE (g.N.Number.value c.args.v) in
    record { room = omega arith; after = c.write.ensures.after; behind = omega (arith, c.SIZE.ensures) }
