use Rattle.octets.proofs.Numbers.{bytes_of_4}
use Rattle.octets.proofs.U32Number.fill.Goals as goal

pub returns : goal.returns
returns c = cc (bytes_of_4 c.args.self)
