use Rattle.std.proofs.Common.{◌+◌, ◌*◌, get_or, arith}
use Rattle.std.proofs.lemmas.Grind.{common_steps}
use Rattle.std.specs.Char.{digit_value}
use Rattle.plantext.proofs.Digits.{says_at, cap_digit}
use Rattle.plantext.proofs.numbers.digits.Goals as goal

pub loop-b-preserved-then-b-eq95 : goal.loop-b-preserved-then-b-eq95
loop-b-preserved-then-b-eq95 c = (c.loop-b.invariant.0, c.loop-b.invariant.1, grind (arith, common_steps, says_at))

pub loop-b-preserved : goal.loop-b-preserved
loop-b-preserved c = (
  c.loop-b.invariant.0 * c.args.base + digit_value (get_or c.args.word.now c.loop-b.b-index 0),
  grind (arith, common_steps, cap_digit),
  grind (arith, common_steps, says_at),
)
