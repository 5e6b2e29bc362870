use Rattle.std.proofs.Common.{ap, ◌∙◌, add-one}
use Rattle.cpu.specs.Rv32i.{rv32i}
use Rattle.model.specs.World.{turn}
use Rattle.model.specs.Tick.{work, tick, later}
use Rattle.reference.specs.Memories.{memories_in}
use Rattle.reference.specs.View.{after, world_of}
use Rattle.reference.proofs.world.World.advance.Goals as goal

pub returns-clause-value : goal.returns-clause-value
unfolding tick later world_of
returns-clause-value c =
    let v = c.work-shown.new.self in
    let came = c.arrivals.ensures in
    λ s.
    ap (λ t. world_of t v.parts.now (memories_in v.pages.now v.memory.now) v.channels.now (after s c.work-shown.result)) (add-one v.time)
    ∙ ap later (c.work-shown.ensures.value s)
    ∙ (λ j. later (work rv32i (came.plan j) (came.value s j) (turn (came.plan j) (came.time j))))
