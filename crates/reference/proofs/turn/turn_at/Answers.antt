use Rattle.std.proofs.Common.{◌≡◌, ◌%◌, None, rules, sym, ap, ◌∙◌, arith}
use Rattle.model.specs.World.{turn_in, round}
use Rattle.reference.proofs.Turns.{turn_empty, within_round}
use Rattle.reference.proofs.turn.turn_at.Goals as goal

pub returns-in_err-into : goal.returns-in_err-into
returns-in_err-into c =
    let none : c.from_residual.result ≡ None = search rules in
    record { value = none ∙ sym (turn_empty c.args.system c.args.windows.now _ (omega (arith, c.in_err-into.ensures, c.round_of.ensures.value))) }

pub returns : goal.returns
returns c =
    record {
      value =
          c.turn_in.ensures.value
          ∙ ap (turn_in c.args.system c.args.windows.now) (c.in_ok-into.ensures.1 ∙ ap (λ n. c.args.time % n) c.round_of.ensures.value ∙ within_round c.args.time (round c.args.windows.now) c.requires);
    }
