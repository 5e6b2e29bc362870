use Rattle.std.proofs.Common.{◌≡◌, ◌+◌, ◌-◌, ◌<◌, length, get_or, drop, sym, ap, ◌∙◌, arith}
use Rattle.std.proofs.lemmas.List.{length-map, get_or-map}
use Rattle.cpu.specs.Core.{Core}
use Rattle.model.specs.World.{Run}
use Rattle.model.specs.Tick.{better, is_ready, first_ready}
use Rattle.reference.specs.Parts.{tasks_of, runs_of, run_in}
use Rattle.reference.proofs.Looking.{first_none, first_more}
use Rattle.reference.proofs.part.Partition.first_ready.Goals as goal

pub loop-i-init : goal.loop-i-init
unfolding runs_of
loop-i-init c =
    let xs = c.args.self.now.tasks.items in
    first_none (tasks_of c.args.self.now) (runs_of c.args.self.now) c.len-i.result (omega (arith, length-map xs run_in, c.len-i.ensures.value))

pub loop-i-preserved : goal.loop-i-preserved
unfolding runs_of
loop-i-preserved c =
    let xs = c.args.self.now.tasks.items in
    let ks = tasks_of c.args.self.now in
    let rs = runs_of c.args.self.now in
    let i = c.loop-i.i - 1 in
    let run = c.index-deref-i.result in
    let next : c.loop-i.i ≡ i + 1 = omega arith in
    let there : i < length xs = omega (arith, c.len-i.ensures.value, c.loop-i.auto.i) in
    let here : i < length rs = omega (arith, length-map xs run_in) in
    let same : get_or rs i (run_in run) ≡ run_in (get_or c.deref.result.now i run) =
    get_or-map run_in xs i run (run_in run) there ∙ ap (λ zs. run_in (get_or zs i run)) (sym c.deref.ensures.0) in
    c.better-best.ensures.value
    ∙ ap (λ b. better ks i b c.loop-i.best) (c.is_ready.ensures ∙ sym (ap (λ (r : Run Core). is_ready r.state) same))
    ∙ ap (better ks i (is_ready (get_or rs i (run_in run)).state)) (c.loop-i.invariant ∙ ap (λ n. first_ready ks n (drop n rs)) next)
    ∙ sym (first_more ks rs i (run_in run) here)
