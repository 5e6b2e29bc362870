use Rattle.std.proofs.Common.{◌+◌, refl, sym, ap, ◌∙◌, arith}
use Rattle.octets.specs.Bytes.{put}
use Rattle.std.proofs.lemmas.List.{append-nil}
use Rattle.partition.specs.declared.came.Came.TheVariants.{Goes, Shows, Waits, Stops}
use Rattle.partition.specs.Shown.{entry_bytes}
use Rattle.partition.proofs.Bursts.{put-none, entries_room, bursted_none, bursted_more}
use Rattle.partition.proofs.burst.burst.Goals as goal
use Rattle.partition.proofs.burst.burst.Goals.{in-Goes, in-Shows}

pub loop-k-init : goal.loop-k-init
loop-k-init c = record { bursted = bursted_none _ _ _ _ _; bytes = refl }

pub note-requires : goal.note-requires
note-requires c =
    let v = c.loop-k.invariant.bursted in
    let room = entries_room c.args.shown.now c.loop-k.shown v.entries 1 v.slice v.behind (omega (arith, v.few, c.loop-k-test.true, c.requires.room)) in
    record { room = omega (arith, room) }

pub returns-in-Waits : goal.returns-in-Waits
returns-in-Waits c =
    let v = c.loop-k.invariant in
    record {
      bursted =
          bursted_more _ _ _ _ _ _ c.args.shown.now c.loop-k.shown c.loop-k.shown _ _ _ Waits v.bursted c.loop-k-test.true c.requires.room c.in-Waits.ensures.did
          (sym (put-none c.loop-k.shown.bytes.now c.loop-k.shown.«at»)) (omega arith) refl (omega arith);
      some = λ h. omega arith;
      bytes = c.in-Waits.ensures.bytes ∙ v.bytes;
    }

pub returns-in-Stops : goal.returns-in-Stops
returns-in-Stops c =
    let v = c.loop-k.invariant in
    record {
      bursted =
          bursted_more _ _ _ _ _ _ c.args.shown.now c.loop-k.shown c.loop-k.shown _ _ _ Stops v.bursted c.loop-k-test.true c.requires.room c.in-Stops.ensures.did
          (sym (put-none c.loop-k.shown.bytes.now c.loop-k.shown.«at»)) (omega arith) refl (omega arith);
      some = λ h. omega arith;
      bytes = c.in-Stops.ensures.bytes ∙ v.bytes;
    }

pub loop-k-preserved : goal.loop-k-preserved
loop-k-preserved c =
    let v = c.loop-k.invariant in
    let z = c.loop-k.shown in
    elim c.match-instruction.branch [
      | in-Goes w ↦
          record {
            bursted =
                bursted_more _ _ _ _ _ _ c.args.shown.now z c.match-instruction.shown _ _ _ Goes v.bursted c.loop-k-test.true c.requires.room w.in-Goes.ensures.did
                (ap (λ x. x.bytes.now) w.shown-is ∙ sym (put-none z.bytes.now z.«at»)) (omega (arith, ap (λ x. x.«at») w.shown-is))
                (ap (λ x. x.bytes.ghost_name) w.shown-is) (omega arith);
            bytes = w.in-Goes.ensures.bytes ∙ v.bytes;
          }
      | in-Shows w ↦
          record {
            bursted =
                bursted_more _ _ _ _ _ _ c.args.shown.now z c.match-instruction.shown _ _ _ (Shows w.in-Shows.byte) v.bursted c.loop-k-test.true c.requires.room w.in-Shows.ensures.did
                (ap (λ x. x.bytes.now) w.shown-is ∙ w.note.ensures.after ∙ ap (put z.bytes.now z.«at») (sym (append-nil (entry_bytes (c.args.stretch.from + c.loop-k.k, w.in-Shows.byte)))))
                (omega (arith, ap (λ x. x.«at») w.shown-is, w.note.ensures.at)) (ap (λ x. x.bytes.ghost_name) w.shown-is ∙ w.note.ensures.bytes) (omega arith);
            bytes = w.in-Shows.ensures.bytes ∙ v.bytes;
          }
    ]
