use Rattle.octets.proofs.Numbers.{bytes_of-number}
use Rattle.octets.proofs.Puts.{length-put}
use Rattle.octets.proofs.Written.{at-put, at-put_other}
use Rattle.octets.proofs.laws_stand.Goals as goal

pub returns : goal.returns
returns c = record { same = at-put; other = at-put_other; len = length-put; bytes = bytes_of-number }
