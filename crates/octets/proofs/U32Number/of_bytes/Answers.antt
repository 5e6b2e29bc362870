use Rattle.std.proofs.Common.{arith}
use Rattle.octets.proofs.Numbers.{number_weighed}
use Rattle.octets.proofs.U32Number.of_bytes.Goals as goal

pub returns : goal.returns
returns c = omega (arith, number_weighed 4 c.args.b.now (omega arith), c.from_le_bytes.ensures)
