use Rattle.std.proofs.Common.{◌≡◌, ℕ, sym, ap, ◌∙◌, ⊎_elim}
use Rattle.cpu.specs.declared.call.Call.TheVariants.{Send, Take, Unknown}
use Rattle.cpu.specs.Held.{core_of}
use Rattle.cpu.specs.Rv32i.{answered}
use Rattle.partition.proofs.Kept.{table_kept}
use Rattle.partition.proofs.Steps.{shows, waiting, clocks, sent, taken, unknown, hears}
use Rattle.partition.proofs.step.call.Goals as goal

pub returns-in-Show-clause-part : goal.returns-in-Show-clause-part
returns-in-Show-clause-part c =
    let b = c.args.b.now.bytes.now in
    let k = core_of c.args.core.now in
    shows b k (core_of c.answer.new.self) c.args.time c.in-Show.byte (sym c.in-Show.ensures.value) c.answer.ensures.after

pub returns-in-Wait-clause-part : goal.returns-in-Wait-clause-part
returns-in-Wait-clause-part c =
    let b = c.args.b.now.bytes.now in
    let k = core_of c.args.core.now in
    waiting b k (core_of c.answer-in-Wait.new.self) c.args.time (sym c.in-Wait.ensures.value) c.answer-in-Wait.ensures.after

pub returns-in-Clock-clause-part : goal.returns-in-Clock-clause-part
returns-in-Clock-clause-part c =
    let b = c.args.b.now.bytes.now in
    let k = core_of c.args.core.now in
    clocks b k (core_of c.answer-in-Clock.new.self) c.args.time (sym c.in-Clock.ensures.value) c.answer-in-Clock.ensures.after

pub returns-in-Send-clause-part : goal.returns-in-Send-clause-part
returns-in-Send-clause-part c =
    let b = c.args.b.now.bytes.now in
    let k = core_of c.args.core.now in
    let d = core_of c.answer-in-Send.new.self in
    let g = c.answer-in-Send.ensures.after in
    let is = sym c.call.ensures.value in
    ⊎_elim
    (λ (w : (n : ℕ) × (a : ℕ) × (l : ℕ) × (c.call.result ≡ Send n a l)). sent b k d c.args.time w.0 w.1 w.2 (is ∙ w.3) g)
    (⊎_elim
    (λ (w : (n : ℕ) × (a : ℕ) × (c.call.result ≡ Take n a)). taken b k d c.args.time w.0 w.1 (is ∙ w.2) g)
    (λ (w : c.call.result ≡ Unknown). unknown b k d c.args.time (is ∙ w) g))
    c.in-Send.is

pub returns-in-Hear-clause-part : goal.returns-in-Hear-clause-part
returns-in-Hear-clause-part c =
    let b = c.args.b.now.bytes.now in
    let k = core_of c.args.core.now in
    hears b k (core_of c.answer-in-Hear.new.self) c.args.time c.hear-answer.new.b.bytes.now (sym c.in-Hear.ensures.value)
    (c.answer-in-Hear.ensures.after ∙ ap (answered k) c.hear-answer.ensures.value) c.hear-answer.ensures.only.memory c.hear-answer.ensures.heard

pub returns-in-Hear-clause-kept : goal.returns-in-Hear-clause-kept
returns-in-Hear-clause-kept c = table_kept c.hear-answer.ensures.only
