use Rattle.std.proofs.Common.{◌%◌, set, drop, Some, sym, refl, ap, ◌∙◌}
use Rattle.cpu.specs.Rv32i.{answered, called}
use Rattle.cpu.specs.declared.call.Answer.TheVariants.{Value}
use Rattle.cpu.specs.declared.call.Call.TheVariants.{Wait, Clock, Send, Take, Hear, Unknown}
use Rattle.model.specs.declared.plan.State.TheVariants.{Waiting}
use Rattle.cpu.specs.Core.{Core}
use Rattle.model.specs.World.{Run}
use Rattle.model.specs.Tick.{showing, with_heard, refused, goes_on, waits, first_heard, no, changed}
use Rattle.model.specs.Tick.{called as called_by}
use Rattle.reference.specs.Parts.{run_of, runs_of, heard_of, part_of}
use Rattle.reference.specs.Own.{said, channels_of}
use Rattle.reference.proofs.Steps.{did}
use Rattle.reference.proofs.Ticks.{core, calling, quiet, goes_so, goes_with, exchanged}
use Rattle.reference.proofs.own.OwnTick.call.Goals as goal

pub returns-in-Clock-clause-value : goal.returns-in-Clock-clause-value
unfolding called_by refused part_of
returns-in-Clock-clause-value c =
    let t = c.args.self.now in
    let k = answered (core t) (Value (t.time % 4294967296)) in
    quiet t (calling t (called (core t))) (calling t Clock) _ _ (heard_of t.part.now) (goes_on k)
    (λ s. ap (λ z. calling t z s) (sym c.call.ensures ∙ c.in-Clock.is)) (λ s. refl)
    (goes_with t c.requires _ k _ c.put-in-Clock.ensures.runs c.answered-in-Clock.ensures) c.put-in-Clock.ensures.heard

pub returns-in-Unknown-clause-value : goal.returns-in-Unknown-clause-value
unfolding called_by refused part_of
returns-in-Unknown-clause-value c =
    let t = c.args.self.now in
    let k = answered (core t) (Value no) in
    quiet t (calling t (called (core t))) (calling t Unknown) _ _ (heard_of t.part.now) (goes_on k)
    (λ s. ap (λ z. calling t z s) (sym c.call.ensures ∙ c.in-Unknown.is)) (λ s. refl)
    (goes_with t c.requires _ k _ c.put-in-Unknown.ensures.runs c.answered-in-Unknown.ensures) c.put-in-Unknown.ensures.heard

pub returns-in-Show-clause-value : goal.returns-in-Show-clause-value
unfolding called_by showing part_of said changed
returns-in-Show-clause-value c =
    let t = c.args.self.now in
    let k = answered (core t) (Value 0) in
    let says = sym c.call.ensures ∙ c.in-Show.is in
    did (calling t (called (core t))) t.time t.part.now _ t.memory.now (heard_of t.part.now) t.i (goes_on k) t.channels.now t.channels.now (Some c.in-Show.b)
    (λ s. ap (λ z. (calling t z s).part) says) (goes_with t c.requires _ k _ c.put.ensures.runs c.answered.ensures) c.put.ensures.heard
    (λ s. ap (λ z. changed (calling t z s).change (channels_of t.channels.now)) says) refl

pub returns-in-Wait-clause-value : goal.returns-in-Wait-clause-value
unfolding called_by part_of waits
returns-in-Wait-clause-value c =
    let t = c.args.self.now in
    let k = answered (core t) (Value 0) in
    quiet t (calling t (called (core t))) (calling t Wait) _ _ (heard_of t.part.now) (waits k)
    (λ s. ap (λ z. calling t z s) (sym c.call.ensures ∙ c.in-Wait.is)) (λ s. refl)
    (goes_so t c.requires _ _ (waits k) c.put-in-Wait.ensures.runs (c.waits.ensures ∙ ap (λ (r : Run Core). record { state = Waiting; core = r.core; began = r.began; late = 0 }) c.answered-run.ensures)) c.put-in-Wait.ensures.heard

pub returns-in-Send-clause-value : goal.returns-in-Send-clause-value
returns-in-Send-clause-value c =
    let t = c.args.self.now in
    let done = c.send-answer in
    let k = answered (core t) done.result in
    let r = c.answered-in-Send.result in
    exchanged t c.requires (Send c.in-Send.channel c.in-Send.address c.in-Send.length) _ _ _ done.result (sym c.call.ensures ∙ c.in-Send.is) done.ensures.value
    (goes_with t c.requires _ k _ (c.put-in-Send.ensures.runs ∙ ap (λ x. set (runs_of x) t.i (run_of r)) done.ensures.part) c.answered-in-Send.ensures)
    (c.put-in-Send.ensures.heard ∙ ap heard_of done.ensures.part)

pub returns-in-Take-clause-value : goal.returns-in-Take-clause-value
returns-in-Take-clause-value c =
    let t = c.args.self.now in
    let done = c.take-answer in
    let k = answered (core t) done.result in
    let r = c.answered-in-Take.result in
    exchanged t c.requires (Take c.in-Take.channel c.in-Take.address) _ _ _ done.result (sym c.call.ensures ∙ c.in-Take.is) done.ensures.value
    (goes_with t c.requires _ k _ (c.put-in-Take.ensures.runs ∙ ap (λ x. set (runs_of x) t.i (run_of r)) done.ensures.part) c.answered-in-Take.ensures)
    (c.put-in-Take.ensures.heard ∙ ap heard_of done.ensures.part)

pub returns-in-Hear-clause-value : goal.returns-in-Hear-clause-value
unfolding called_by part_of with_heard
returns-in-Hear-clause-value c =
    let t = c.args.self.now in
    let k = answered (core t) (Value (first_heard (heard_of t.part.now))) in
    let r = c.answered-in-Hear.result in
    let hears = c.hear-answer.ensures in
    quiet t (calling t (called (core t))) (calling t Hear) c.put-in-Hear.new.self _ (drop 1 (heard_of t.part.now)) (goes_on k)
    (λ s. ap (λ z. calling t z s) (sym c.call.ensures ∙ c.in-Hear.is)) (λ s. refl)
    (goes_with t c.requires c.put-in-Hear.new.self k _ (c.put-in-Hear.ensures.runs ∙ ap (λ rs. set rs t.i (run_of r)) hears.runs)
    (c.answered-in-Hear.ensures ∙ ap (λ a. record (run_of t.run) { core = answered (core t) a }) hears.value))
    (c.put-in-Hear.ensures.heard ∙ hears.heard)
