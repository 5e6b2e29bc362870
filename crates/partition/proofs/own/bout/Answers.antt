use Rattle.std.proofs.Common.{◌≡◌, ◌+◌, sym, ap, ◌∙◌, arith}
use Rattle.cpu.specs.Held.{core_of}
use Rattle.model.specs.Tick.{is_ready}
use Rattle.memory.specs.Frames.{frame}
use Rattle.tasks.specs.Records.{run_at, task_at}
use Rattle.tasks.specs.Lent.{run_in, task_in}
use Rattle.partition.proofs.Owns.{still_for, ran_idle, ran_busy}
use Rattle.partition.proofs.own.bout.Goals as goal

pub returns-then-not-is_ready-clause-ran : goal.returns-then-not-is_ready-clause-ran
returns-then-not-is_ready-clause-ran c =
    let b = c.look.new.b.bytes.now in
    let r = c.new-record.result in
    let n = c.new-record.ensures.number in
    let t = c.new-record.ensures.table ∙ c.frame.ensures.value ∙ ap (frame 2) c.block.ensures.bytes in
    let run : run_in r ≡ run_at (frame 2 b) 0 = λ j. run_at (t j) (n j) in
    let plan : task_in r ≡ task_at (frame 2 b) 0 = λ j. task_at (t j) (n j) in
    ran_idle c.args.b.now.bytes.now b c.args.shown.now c.args.stretch.from (c.min-ticks.result + 1) c.requires.one c.look.ensures.only (omega arith)
    c.look.ensures.run c.look.ensures.plan (ap (λ x. is_ready x.state) (sym run) ∙ sym c.if-not-is_ready.ensures.value)
    (λ j h. still_for _ _ _ _ _ (c.args.stretch.from + 1 + j) plan run n (c.until.ensures.still j (omega (arith, c.min-ticks.ensures))))

pub returns-clause-ran : goal.returns-clause-ran
returns-clause-ran c =
    let b = c.look.new.b.bytes.now in
    let r = c.new-record.result in
    let n = c.new-record.ensures.number in
    let t = c.new-record.ensures.table ∙ c.frame.ensures.value ∙ ap (frame 2) c.block.ensures.bytes in
    let run : run_in r ≡ run_at (frame 2 b) 0 = λ j. run_at (t j) (n j) in
    let plan : task_in r ≡ task_at (frame 2 b) 0 = λ j. task_at (t j) (n j) in
    ran_busy c.args.b.now.bytes.now b c.burst-done.new.b.bytes.now c.settle.new.b.bytes.now c.args.shown.now c.burst-done.new.shown c.args.stretch.from (c.min-ticks.result + 1)
    (core_of c.registers-core.result) (core_of c.burst-done.new.core) c.burst-done.result c.requires.one c.look.ensures.only c.look.ensures.run c.look.ensures.plan
    (ap (λ x. is_ready x.state) (sym run) ∙ sym c.if-not-is_ready.ensures.value)
    (λ j h. still_for _ _ _ _ _ (c.args.stretch.from + 1 + j) plan run n (c.until.ensures.still j (omega (arith, c.min-ticks.ensures))))
    (c.registers-core.ensures.value ∙ ap (λ x. x.core) run) c.burst-done.ensures.bursted (c.burst-done.ensures.some (omega arith)) c.settle.ensures.only c.settle.ensures.run c.settle.ensures.plan
