use Rattle.std.proofs.Common.{◌≡◌, ◌%◌, arith}
use Rattle.octets.specs.Bytes.{bytes_of}
use Rattle.octets.proofs.U8Number.fill.Goals as goal

pub returns : goal.returns
unfolding bytes_of
returns c = let e : c.args.self ≡ c.args.self % 256 = omega arith in cc
