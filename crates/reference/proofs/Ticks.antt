-- What is done in a partition's own tick, from what becomes of the task that goes.
use Rattle.std.proofs.Common.{◌≡◌, ℕ, List, set, None, sym, ap, ◌∙◌}
use Rattle.std.proofs.lemmas.List.{append-nil}
use Rattle.cpu.specs.Core.{Core}
use Rattle.cpu.specs.Rv32i.{answered, called, performed}
use Rattle.cpu.specs.declared.call.Answer.{Answer}
use Rattle.cpu.specs.declared.call.Call.{Call}
use Rattle.cpu.specs.declared.effect.Effect.{Effect}
use Rattle.model.specs.World.{Run, Part}
use Rattle.model.specs.Tick.{Step, none, acted, changing, changed, goes_on, update, with_memory}
use Rattle.model.specs.Tick.{called as called_by}
use Rattle.reference.specs.declared.own.OwnTick.{OwnTick}
use Rattle.reference.specs.declared.part.Partition.{Partition}
use Rattle.reference.specs.declared.queue.Queue.{Queue}
use Rattle.reference.specs.Parts.{run_of, runs_of, heard_of, part_of}
use Rattle.reference.specs.Own.{Did, Exchanged, Goes, said, seen_of, channels_of}
use Rattle.reference.proofs.Changes.{run_changed}
use Rattle.reference.proofs.Steps.{did, did_quiet}

module _ (t : OwnTick) where
  -- The core of the task that goes.
  abbrev pub core : Core
  core = (run_of t.run).core

  abbrev pub with_the_core : Core → Run Core
  with_the_core k = record (run_of t.run) { core = k }

  -- What a call of it comes to, and what its instruction comes to.
  abbrev pub calling : Call → List (ℕ × ℕ) → Step Core
  calling k s = called_by t.q t.time (seen_of t.channels.now t.q) (part_of t.part.now t.memory.now s) t.i k (answered core)

  abbrev pub acting : Effect → List (ℕ × ℕ) → Step Core
  acting e s = acted t.q t.time (seen_of t.channels.now t.q) (part_of t.part.now t.memory.now s) t.i (performed core t.memory.now e)

  -- The part with this memory and these bytes unheard, when its task has changed so.
  abbrev pub becoming : List ℕ → List ℕ → (Run Core → Run Core) → List (ℕ × ℕ) → Part Core
  becoming m h f s = changing (record { memory = m; tasks = runs_of t.part.now; heard = h; shown = s }) t.i f

  -- A step that shows nothing and sends nothing.
  pub quiet :
      (step other : List (ℕ × ℕ) → Step Core) (y : Partition) (m h : List ℕ) (f : Run Core → Run Core) → ((s : List (ℕ × ℕ)) → step s ≡ other s)
      → ((s : List (ℕ × ℕ)) → other s ≡ record { part = becoming m h f s; change = none })
      → runs_of y ≡ update (runs_of t.part.now) t.i f → heard_of y ≡ h → Did step t.time y m t.channels.now t.channels.now None
  quiet step other y m h f e p rs hs = did_quiet step t.time t.part.now y m h t.i f t.channels.now (λ s. e s ∙ p s) rs hs

  module _ (goes : Goes t) where
    pub goes_so : (y : Partition) (r : Run Core) (f : Run Core → Run Core) → runs_of y ≡ set (runs_of t.part.now) t.i r → r ≡ f (run_of t.run) → runs_of y ≡ update (runs_of t.part.now) t.i f
    goes_so y r f = run_changed (runs_of t.part.now) (runs_of y) t.i (run_of t.run) r f goes.found

    -- The task goes on with a core.
    pub goes_with : (y : Partition) (k : Core) (r : Run Core) → runs_of y ≡ set (runs_of t.part.now) t.i r → r ≡ with_the_core k → runs_of y ≡ update (runs_of t.part.now) t.i (goes_on k)
    unfolding goes_on
    goes_with y k r rs e =
        goes_so y r (goes_on k) rs (e ∙ (λ j. record { state = goes.ready j; core = k; began = (run_of t.run).began; late = (run_of t.run).late }))

    -- A call with a channel was done.
    pub exchanged :
        (k : Call) (y : Partition) (n : List ℕ) (ds : List Queue) (a : Answer) → called core ≡ k
        → Exchanged (λ x i then. called_by t.q t.time (seen_of t.channels.now t.q) x i k then) t.memory.now n t.channels.now ds a
        → runs_of y ≡ update (runs_of t.part.now) t.i (goes_on (answered core a)) → heard_of y ≡ heard_of t.part.now
        → Did (calling (called core)) t.time y n t.channels.now ds None
    unfolding part_of with_memory said
    exchanged k y n ds a e d rs hs =
        did (calling (called core)) t.time t.part.now y n (heard_of t.part.now) t.i (goes_on (answered core a)) t.channels.now ds None
        (λ s.
        ap (λ z. (calling z s).part) e
        ∙ d.part (part_of t.part.now t.memory.now s) t.i (answered core)
        ∙ ap (becoming n (heard_of t.part.now) (goes_on (answered core a))) (sym (append-nil s)))
        rs hs
        (λ s. ap (λ z. changed (calling z s).change (channels_of t.channels.now)) e ∙ d.change (part_of t.part.now t.memory.now s) t.i (answered core))
        d.plans
