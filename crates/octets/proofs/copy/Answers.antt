use Rattle.std.proofs.Common.{length, ap, ◌∙◌, arith}
use Rattle.octets.specs.Bytes.{put}
use Rattle.octets.proofs.Puts.{put_is}
use Rattle.octets.proofs.copy.Goals as goal

pub returns : goal.returns
returns c =
    record {
      after =
          put_is c.args.b.now c.copy_from_slice.new.self c.args.k _ (omega (arith, ap length c.copy_from_slice.ensures.after))
          ∙ ap (put c.args.b.now c.args.k) c.copy_from_slice.ensures.after;
    }
