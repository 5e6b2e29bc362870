use Rattle.std.proofs.Common.{[], get_or}
use Rattle.std.proofs.lemmas.Option.{slice_get-get_or}
use Rattle.reference.specs.Memories.{memories_in}
use Rattle.reference.specs.Own.{channels_of, plans_of}
use Rattle.reference.specs.View.{plan_in, world_of}
use Rattle.reference.proofs.Worlds.{came_there, came_nowhere, plan_kept}
use Rattle.reference.proofs.world.World.arrival.Goals as goal

pub returns-then-q-self-clause-value : goal.returns-then-q-self-clause-value
unfolding world_of
returns-then-q-self-clause-value c =
    let w = c.args.self.now in
    let xs = w.parts.now in
    let q = c.args.a.partition in
    let old = get_or xs q c.index-self-q.result in
    λ s rest.
    came_there w.time (λ j. get_or (memories_in w.pages.now w.memory.now) j []) (channels_of w.channels.now) s xs c.args.a rest old c.arrive.new.self
    (slice_get-get_or xs q c.index-self-q.result c.if-q-self.true) c.arrive.ensures.runs c.arrive.ensures.heard

pub returns-then-q-self-clause-plan : goal.returns-then-q-self-clause-plan
unfolding plan_in
returns-then-q-self-clause-plan c =
    let w = c.args.self.now in
    let xs = w.parts.now in
    let q = c.args.a.partition in
    let old = get_or xs q c.index-self-q.result in
    let kept = plan_kept xs q old c.arrive.new.self (slice_get-get_or xs q c.index-self-q.result c.if-q-self.true) c.arrive.ensures.tasks in
    λ j. record { system = w.system; windows = w.windows.now; channels = plans_of w.channels.now; tasks = kept j }

pub returns-else-q-self-clause-value : goal.returns-else-q-self-clause-value
unfolding world_of
returns-else-q-self-clause-value c =
    let w = c.args.self.now in
    λ s rest. came_nowhere w.time (λ j. get_or (memories_in w.pages.now w.memory.now) j []) (channels_of w.channels.now) s w.parts.now c.args.a rest c.if-q-self.false
