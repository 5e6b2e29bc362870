use Rattle.std.proofs.Common.{length, ap, ◌∙◌, arith}
use Rattle.octets.specs.Bytes.{put}
use Rattle.octets.proofs.Numbers.{length-bytes_of}
use Rattle.octets.proofs.Puts.{put_is}
use Rattle.octets.proofs.write.Goals as goal

pub returns : goal.returns
returns g c =
    record {
      after =
          put_is c.args.b.now c.fill.new.b c.args.k _ (omega (arith, ap length c.fill.ensures, length-bytes_of g.N.Number.SIZE (g.N.Number.value c.args.v), c.SIZE.ensures))
          ∙ ap (put c.args.b.now c.args.k) c.fill.ensures;
    }
