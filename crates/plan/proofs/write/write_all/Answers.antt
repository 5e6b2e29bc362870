use Rattle.std.proofs.Common.{ap, arith}
use Rattle.plan.proofs.Writing.{puts_none, puts_same, room_more, puts_more, puts_all}
use Rattle.plan.proofs.write.write_all.Goals as goal

pub loop-r-init : goal.loop-r-init
loop-r-init g c = puts_none c.args.out.now c.args.from (omega (arith, c.requires.room))

pub write-k-requires-clause-room : goal.write-k-requires-clause-room
write-k-requires-clause-room g c =
    let l = c.loop-r in
    let x = c.r-item in
    let n = room_more g.R.ToBytes.bytes c.args.records.now l.r-index x.result c.loop-r-test.true l.invariant c.requires.room l.auto.out in
    rw x.is n

pub loop-r-preserved : goal.loop-r-preserved
loop-r-preserved g c =
    let f = g.R.ToBytes.bytes in
    let l = c.loop-r in
    let x = c.r-item in
    puts_more f c.args.records.now l.r-index x.result c.loop-r-test.true l.invariant (puts_same (ap f x.is) c.write-k.ensures.puts)

pub returns : goal.returns
returns g c = record { puts = puts_all g.R.ToBytes.bytes c.args.records.now c.loop-r.r-index c.loop-r-test.false c.loop-r.invariant }
