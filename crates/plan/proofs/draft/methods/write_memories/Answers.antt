use Rattle.std.proofs.Common.{arith}
use Rattle.plan.specs.Drafts.{memory_bytes}
use Rattle.plan.proofs.Writing.{puts_none, room_more, puts_more}
use Rattle.plan.proofs.draft.methods.write_memories.Goals as goal

pub loop-part-init : goal.loop-part-init
loop-part-init c = puts_none c.args.out.now c.args.from (omega (arith, c.requires))

pub put_bytes-k-requires : goal.put_bytes-k-requires
put_bytes-k-requires c =
    let l = c.loop-part in
    room_more memory_bytes c.args.parts.now l.part-index _ c.loop-part-test.true l.invariant c.requires l.auto.out

pub loop-part-preserved : goal.loop-part-preserved
loop-part-preserved c =
    let l = c.loop-part in
    puts_more memory_bytes c.args.parts.now l.part-index _ c.loop-part-test.true l.invariant c.put_bytes-k.ensures.puts
