use Rattle.std.proofs.Common.{◌-◌, refl, ◌∙◌, arith}
use Rattle.partition.proofs.Bursts.{entries_room}
use Rattle.partition.proofs.Owns.{ran_none, ran_nobody, ran_then}
use Rattle.partition.proofs.own.own_ticks.Goals as goal

pub returns-then-count-eq0-clause-ran : goal.returns-then-count-eq0-clause-ran
returns-then-count-eq0-clause-ran c =
    ran_nobody c.args.b.now.bytes.now c.args.shown.now c.args.stretch.from c.args.stretch.ticks (omega (arith, c.count.ensures.value))

pub loop-done-init : goal.loop-done-init
loop-done-init c = record { ran = ran_none c.args.b.now.bytes.now c.args.shown.now c.args.stretch.from; bytes = refl; within = omega arith }

pub bout-done-requires-clause-one : goal.bout-done-requires-clause-one
bout-done-requires-clause-one c = omega (arith, c.loop-done.invariant.ran.count, c.count.ensures.value, c.requires.few)

pub bout-done-requires-clause-room : goal.bout-done-requires-clause-room
bout-done-requires-clause-room c =
    let v = c.loop-done.invariant.ran in
    entries_room c.args.shown.now c.loop-done.shown v.entries (c.args.stretch.ticks - c.loop-done.done) v.slice v.behind (omega (arith, v.few, c.requires.room))

pub loop-done-preserved : goal.loop-done-preserved
loop-done-preserved c =
    let v = c.loop-done.invariant in
    record {
      ran = ran_then _ _ _ c.args.shown.now c.loop-done.shown _ c.args.stretch.from c.loop-done.done _ v.ran c.bout-done.ensures.ran (omega arith);
      bytes = c.bout-done.ensures.bytes ∙ v.bytes;
      within = omega arith;
    }
