use Rattle.std.proofs.Common.{rules, sym, ◌∙◌}
use Rattle.reference.specs.Own.{seen_of}
use Rattle.reference.proofs.Steps.{did_nothing, did_as, did_lent, nobody_first, first_does, first_there, first_is_ready}
use Rattle.reference.proofs.own.own_tick.Goals as goal

pub returns-in_default-clause-value : goal.returns-in_default-clause-value
returns-in_default-clause-value c =
    let ls = c.look.ensures in
    did_nothing _ c.args.time c.look.new.self c.args.memory.now c.args.channels.now
    (nobody_first c.args.q c.args.time (seen_of c.args.channels.now c.args.q) c.args.part.now c.look.new.self c.args.memory.now ls.runs ls.tasks ls.heard (sym c.first_ready.ensures.value ∙ c.in_default.is))

pub progress-run-requires : goal.progress-run-requires
progress-run-requires c = first_there c.look.new.self c.in-Some.i (sym c.first_ready.ensures.value ∙ c.in-Some.is)

pub instruction-requires : goal.instruction-requires
instruction-requires c =
    let first = sym c.first_ready.ensures.value ∙ c.in-Some.is in
    record { found = c.progress-run.ensures.value; ready = first_is_ready c.look.new.self c.in-Some.i first _ c.progress-run.ensures.value }

pub returns-clause-value : goal.returns-clause-value
returns-clause-value c =
    let ls = c.look.ensures in
    let d =
    did_as _ _ c.args.time _ _ c.args.channels.now _ _
    (first_does c.args.q c.args.time (seen_of c.args.channels.now c.args.q) c.args.part.now c.look.new.self c.args.memory.now ls.runs ls.tasks ls.heard c.in-Some.i _
    (sym c.first_ready.ensures.value ∙ c.in-Some.is) c.progress-run.ensures.value)
    c.instruction.ensures.value in
    search (rules, did_lent)
