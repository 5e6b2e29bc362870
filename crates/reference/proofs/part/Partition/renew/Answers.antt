use Rattle.std.proofs.Common.{◌≡◌, ◌<◌, length, map, sym, ◌∙◌, subst, zero-add, arith}
use Rattle.std.proofs.lemmas.List.{length-map}
use Rattle.cpu.specs.Core.{fresh}
use Rattle.cpu.specs.Rv32i.{rv32i}
use Rattle.model.specs.declared.plan.State.TheVariants.{Ready}
use Rattle.model.specs.Tick.{new_runs}
use Rattle.reference.specs.Parts.{tasks_of, runs_of, run_in, task_of}
use Rattle.reference.proofs.Looking.{Done, length-new_runs, get_or-new_runs, done_more, done_all}
use Rattle.reference.proofs.part.Partition.renew.Goals as goal

pub loop-i-preserved : goal.loop-i-preserved
loop-i-preserved c =
    let xs = c.deref_mut-task-items.result.now in
    let ys = c.loop-i.task-items in
    let i = c.loop-i.i in
    let r = c.task-item.result in
    let ks = map task_of xs in
    let ls = new_runs rv32i 0 ks in
    let many : length ls ≡ length xs = length-new_runs rv32i ks 0 ∙ length-map xs task_of in
    let there : i < length ks = omega (arith, length-map xs task_of) in
    done_more ls xs ys i many c.loop-i.invariant r c.new-task.result (omega arith)
    (get_or-new_runs rv32i ks 0 i (run_in r) there ∙ (λ j. record { state = Ready; core = fresh (zero-add i j); began = 0; late = 0 }) ∙ sym c.new-task.ensures)

pub returns-clause-runs : goal.returns-clause-runs
unfolding tasks_of runs_of
returns-clause-runs c =
    let xs = c.args.self.now.tasks.items in
    done_all (new_runs rv32i 0 (map task_of xs)) xs c.loop-i.task-items c.loop-i.i (length-new_runs rv32i (map task_of xs) 0 ∙ length-map xs task_of)
    (subst (λ zs. Done (new_runs rv32i 0 (map task_of zs)) zs c.loop-i.i c.loop-i.task-items) c.deref_mut-task-items.ensures.value c.loop-i.invariant)
    (omega arith)
