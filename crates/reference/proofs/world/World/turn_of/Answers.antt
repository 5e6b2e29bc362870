use Rattle.std.proofs.Common.{◌≡◌, ◌-◌, [], length, get_or, ap, ◌∙◌, arith}
use Rattle.std.specs.List.{between}
use Rattle.std.proofs.lemmas.Option.{slice_get-get_or}
use Rattle.std.proofs.lemmas.List.Edits.{length-between}
use Rattle.octets.proofs.Puts.{put_is}
use Rattle.reference.specs.Memories.{memories_in}
use Rattle.reference.specs.View.{plan_in}
use Rattle.reference.proofs.Places.{region_is, region_put, region_other}
use Rattle.reference.proofs.Worlds.{worked_with, worked_nowhere, plan_kept}
use Rattle.reference.proofs.world.World.turn_of.Goals as goal

pub returns-then-k-self-clause-value : goal.returns-then-k-self-clause-value
returns-then-k-self-clause-value c =
    let w = c.args.self.now in λ s. worked_nowhere w.system w.time w.windows.now w.parts.now (memories_in w.pages.now w.memory.now) w.channels.now s c.args.q c.if-k-self.true

pub returns-clause-value : goal.returns-clause-value
returns-clause-value c =
    let w = c.args.self.now in
    let xs = w.parts.now in
    let ps = w.pages.now in
    let m = w.memory.now in
    let q = c.args.q in
    let a = c.region-own.result.start in
    let e = c.region-own.result.end in
    let at = c.region-own.ensures in
    let n = c.own_tick.new.memory in
    let many : length n ≡ e - a = c.own_tick.auto.memory ∙ length-between m a e (omega (arith, at.end)) in
    let lent = put_is m n a (e - a) many in
    λ s.
    worked_with w.system w.time w.windows.now xs (memories_in ps m) w.channels.now s q _ c.own_tick.new.channels (get_or xs q c.index-parts-k.result) c.own_tick.new.part c.own_tick.result (between a e m) n
    (slice_get-get_or xs q c.index-parts-k.result c.if-k-self.false) (region_is ps m q a e at.start at.end)
    (ap (λ z. get_or (memories_in ps z) q []) lent ∙ region_put ps m q a e at.start at.end n many) c.own_tick.ensures.value
    (λ j h. ap (λ z. get_or (memories_in ps z) j []) lent ∙ region_other ps m q a e at.start at.end n j many h)

pub returns-clause-plan : goal.returns-clause-plan
unfolding plan_in
returns-clause-plan c =
    let w = c.args.self.now in
    let xs = w.parts.now in
    let old = get_or xs c.args.q c.index-parts-k.result in
    let kept = plan_kept xs c.args.q old c.own_tick.new.part (slice_get-get_or xs c.args.q c.index-parts-k.result c.if-k-self.false) c.own_tick.ensures.tasks in
    λ j. record { system = w.system; windows = w.windows.now; channels = c.own_tick.ensures.value.plans j; tasks = kept j }
