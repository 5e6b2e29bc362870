use Rattle.std.proofs.Common.{◌≡◌, ◌<◌, length, get_or, map, ap, sym, ◌∙◌, subst, zero-add, arith}
use Rattle.std.proofs.lemmas.List.{length-map}
use Rattle.cpu.specs.Rv32i.{rv32i}
use Rattle.model.specs.World.{no_task}
use Rattle.model.specs.Tick.{looked, checked, woken}
use Rattle.reference.specs.Parts.{tasks_of, runs_of, run_in, task_of}
use Rattle.reference.proofs.Looking.{Done, length-looked, get_or-looked, plan_was, run_was, done_more, done_all}
use Rattle.reference.proofs.part.Partition.look.Goals as goal

pub loop-i-preserved : goal.loop-i-preserved
loop-i-preserved c =
    let xs = c.deref_mut-task-items.result.now in
    let ys = c.loop-i.task-items in
    let i = c.loop-i.i in
    let t = c.args.time in
    let r = c.task-item.result in
    let ks = map task_of xs in
    let rs = map run_in xs in
    let ls = looked rv32i ks 0 t rs in
    let many : length ls ≡ length xs = length-looked rv32i ks t rs 0 ∙ length-map xs run_in in
    let here : i < length ys = omega arith in
    let there : i < length rs = omega (arith, length-map xs run_in) in
    let plan = plan_was ls xs ys i many c.loop-i.invariant r here in
    let run = run_was ls xs ys i many c.loop-i.invariant r here in
    done_more ls xs ys i many c.loop-i.invariant r c.check.new.self here
    (get_or-looked rv32i ks t rs 0 i (run_in r) there
    ∙ ap (λ n. checked (get_or ks n no_task) t (woken rv32i (get_or ks n no_task) n t (get_or rs i (run_in r)))) (zero-add i)
    ∙ (λ j. checked (plan j) t (woken rv32i (plan j) i t (run j)))
    ∙ sym (c.check.ensures ∙ ap (checked (get_or ys i r).plan t) c.wake.ensures))

pub returns-clause-runs : goal.returns-clause-runs
unfolding tasks_of runs_of
returns-clause-runs c =
    let xs = c.args.self.now.tasks.items in
    done_all (looked rv32i (map task_of xs) 0 c.args.time (map run_in xs)) xs c.loop-i.task-items c.loop-i.i
    (length-looked rv32i (map task_of xs) c.args.time (map run_in xs) 0 ∙ length-map xs run_in)
    (subst (λ zs. Done (looked rv32i (map task_of zs) 0 c.args.time (map run_in zs)) zs c.loop-i.i c.loop-i.task-items) c.deref_mut-task-items.ensures.value c.loop-i.invariant)
    (omega arith)
