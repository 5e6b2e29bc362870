use Rattle.std.proofs.Common.{◌+◌, ◌-◌, leb, get_or, drop, sym, ap, ◌∙◌, arith}
use Rattle.std.specs.Bool.{then_some}
use Rattle.model.specs.World.{turn_in}
use Rattle.reference.proofs.Turns.{no_window, turn_behind, turn_here, turn_all}
use Rattle.reference.proofs.turn.turn_in.Goals as goal

pub windows-preserved : goal.windows-preserved
windows-preserved c =
    ap (λ n. turn_in c.args.system (drop (c.windows.w-index + 1) c.args.windows.now) (c.windows.left - n)) c.from-ticks.ensures
    ∙ sym (turn_behind c.args.system c.args.windows.now c.windows.w-index c.windows.left c.windows-test.true (omega arith))
    ∙ c.windows.invariant

pub returns : goal.returns
returns c =
    record { value = sym (sym c.windows.invariant ∙ turn_all c.args.system c.args.windows.now c.windows.w-index c.windows.left c.windows-test.false) }

pub returns-in-windows : goal.returns-in-windows
returns-in-windows c =
    let ws = c.args.windows.now in
    let i = c.windows.w-index in
    record {
      value =
          c.then_some.ensures
          ∙ ap (λ n. then_some (leb n c.windows.left) (get_or ws i no_window).partition) c.from.ensures
          ∙ sym (turn_here c.args.system ws i c.windows.left c.windows-test.true (omega arith))
          ∙ c.windows.invariant;
    }
