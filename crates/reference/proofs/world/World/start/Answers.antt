use Rattle.std.proofs.Common.{◌≡◌, [], sym, ◌∙◌, arith}
use Rattle.std.proofs.Math.Seq.{map-set_same}
use Rattle.cpu.specs.Rv32i.{rv32i}
use Rattle.model.specs.Tick.{new_runs}
use Rattle.reference.specs.declared.queue.Queue.{Queue}
use Rattle.reference.specs.Letters.{sents_of}
use Rattle.reference.specs.Memories.{memories_in}
use Rattle.reference.specs.Own.{plan_of, plans_of}
use Rattle.reference.specs.Parts.{New, tasks_of}
use Rattle.reference.specs.View.{plan_in}
use Rattle.reference.proofs.Beginning.{begins, each_more, each_all}
use Rattle.reference.proofs.world.World.start.Goals as goal

pub loop-part-preserved : goal.loop-part-preserved
loop-part-preserved c =
    let xs = c.loop-part.parts in
    let q = c.loop-part.part-index in
    let kept = c.renew.ensures.tasks in (
      each_more New xs q c.renew.new.self c.loop-part.invariant.0 (record { runs = c.renew.ensures.runs ∙ (λ j. new_runs rv32i 0 (sym kept j)); heard = c.renew.ensures.heard }),
      map-set_same tasks_of xs q c.renew.new.self c.part-item.result kept ∙ c.loop-part.invariant.1,
    )

pub loop-channel-preserved : goal.loop-channel-preserved
unfolding plans_of plan_of
loop-channel-preserved c =
    let cs = c.loop-channel.channels in
    let i = c.loop-channel.channel-index in (
      each_more (λ (x : Queue). sents_of x ≡ []) cs i c.clear.new.self c.loop-channel.invariant.0 c.clear.ensures.after,
      map-set_same plan_of cs i c.clear.new.self c.channel-item.result c.clear.ensures.same ∙ c.loop-channel.invariant.1,
    )

pub returns-clause-plan : goal.returns-clause-plan
unfolding plan_in
returns-clause-plan c =
    λ j. record { system = c.args.system; windows = c.args.windows.now; channels = c.loop-channel.invariant.1 j; tasks = c.loop-part.invariant.1 j }

pub returns-clause-value : goal.returns-clause-value
returns-clause-value c =
    begins c.args.system c.args.windows.now c.loop-part.parts (memories_in c.args.pages.now c.args.memory.now) c.loop-channel.channels
    (each_all New c.loop-part.parts c.loop-part.part-index (omega arith) c.loop-part.invariant.0)
    (each_all (λ (x : Queue). sents_of x ≡ []) c.loop-channel.channels c.loop-channel.channel-index (omega arith) c.loop-channel.invariant.0)
