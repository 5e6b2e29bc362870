use Rattle.octets.proofs.Numbers.{bytes_of_8}
use Rattle.octets.proofs.U64Number.fill.Goals as goal

pub returns : goal.returns
returns c = cc (bytes_of_8 c.args.self)
