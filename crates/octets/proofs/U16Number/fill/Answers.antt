use Rattle.octets.proofs.Numbers.{bytes_of_2}
use Rattle.octets.proofs.U16Number.fill.Goals as goal

pub returns : goal.returns
returns c = cc (bytes_of_2 c.args.self)
