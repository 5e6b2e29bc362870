use Rattle.std.proofs.Common.{sym, ◌∙◌}
use Rattle.decode.proofs.Whole.{encodes}
use Rattle.decode.proofs.Only.{only}
use Rattle.decode.proofs.decode.Goals as goal

pub returns : goal.returns
returns c =
    record {
      value = c.by_opcode.ensures.value;
      encodes = λ i e. encodes c.args.word c.ranges.word.fits i (sym c.by_opcode.ensures.value ∙ e);
      only = λ i e. c.by_opcode.ensures.value ∙ only c.args.word i e;
    }
