-- A partition's own tick, from what was done to its tasks.
use Rattle.std.proofs.Common.{◌≡◌, ℕ, zero, suc, ◌<◌, length, List, [], ◌∷◌, ◌++◌, map, drop, Some, None, Option, sym, refl, ap, ◌∙◌, subst, arith, MatchOption}
use Rattle.std.specs.List.{slice_get}
use Rattle.std.proofs.lemmas.List.{append-nil, length-map}
use Rattle.cpu.specs.Core.{Core}
use Rattle.cpu.specs.Rv32i.{rv32i, act}
use Rattle.model.specs.declared.plan.State.{State}
use Rattle.model.specs.declared.plan.State.TheVariants.{Ready}
use Rattle.model.specs.World.{Run}
use Rattle.model.specs.Promise.{GoesFirst, ReadyAt}
use Rattle.model.proofs.Priority.{first_ready_lem}
use Rattle.model.specs.Tick.{Step, Sight, none, changed, changing, with_tasks, update, looked, first_ready, does, instruction, part_tick, acted}
use Rattle.reference.specs.declared.part.Partition.{Partition}
use Rattle.reference.specs.declared.queue.Queue.{Queue}
use Rattle.reference.specs.Parts.{run_in, task_of, runs_of, tasks_of, heard_of, part_of}
use Rattle.reference.specs.Own.{Did, said, plans_of, channels_of}
use Rattle.std.proofs.lemmas.Option.{slice_get_within}
use Rattle.reference.proofs.Nths.{nth-map_some}

module _ (step : List (ℕ × ℕ) → Step Core) (t : ℕ) (x y : Partition) (m : List ℕ) (h : List ℕ) (i : ℕ) (f : Run Core → Run Core) (cs ds : List Queue) (r : Option ℕ) where
  -- One task of x was changed by f, and the partition is y.
  pub did :
      ((s : List (ℕ × ℕ)) → (step s).part ≡ changing (record { memory = m; tasks = runs_of x; heard = h; shown = s ++ said t r }) i f)
      → runs_of y ≡ update (runs_of x) i f → heard_of y ≡ h → ((s : List (ℕ × ℕ)) → changed (step s).change (channels_of cs) ≡ channels_of ds) → plans_of ds ≡ plans_of cs
      → Did step t y m cs ds r
  unfolding part_of changing with_tasks
  did p rs hs c ps =
      record { part = λ s. (λ j. record { memory = m; tasks = rs j; heard = hs j; shown = s ++ said t r }) ∙ sym (p s); change = λ s. sym (c s); plans = ps }

module _ (step : List (ℕ × ℕ) → Step Core) (t : ℕ) (x y : Partition) (m : List ℕ) (h : List ℕ) (i : ℕ) (f : Run Core → Run Core) (cs : List Queue) where
  -- The same, where nothing was shown and no channel changed.
  pub did_quiet :
      ((s : List (ℕ × ℕ)) → step s ≡ record { part = changing (record { memory = m; tasks = runs_of x; heard = h; shown = s }) i f; change = none })
      → runs_of y ≡ update (runs_of x) i f → heard_of y ≡ h → Did step t y m cs cs None
  unfolding said changed
  did_quiet p rs hs =
      did step t x y m h i f cs cs None
      (λ s. ap (λ (st : Step Core). st.part) (p s) ∙ ap (λ z. changing (record { memory = m; tasks = runs_of x; heard = h; shown = z }) i f) (sym (append-nil s)))
      rs hs (λ s. ap (λ (st : Step Core). changed st.change (channels_of cs)) (p s)) refl

-- Nothing was done.
pub did_nothing :
    (step : List (ℕ × ℕ) → Step Core) (t : ℕ) (y : Partition) (m : List ℕ) (cs : List Queue)
    → ((s : List (ℕ × ℕ)) → step s ≡ record { part = part_of y m s; change = none }) → Did step t y m cs cs None
unfolding said changed
did_nothing step t y m cs p =
    record {
      part = λ s. ap (part_of y m) (append-nil s) ∙ sym (ap (λ (st : Step Core). st.part) (p s));
      change = λ s. sym (ap (λ (st : Step Core). changed st.change (channels_of cs)) (p s));
      plans = refl;
    }

-- The same was done under another name.
pub did_as :
    (step other : List (ℕ × ℕ) → Step Core) (t : ℕ) (y : Partition) (m : List ℕ) (cs ds : List Queue) (r : Option ℕ)
    → ((s : List (ℕ × ℕ)) → other s ≡ step s) → Did step t y m cs ds r → Did other t y m cs ds r
did_as step other t y m cs ds r e d =
    record {
      part = λ s. d.part s ∙ sym (ap (λ (st : Step Core). st.part) (e s));
      change = λ s. d.change s ∙ sym (ap (λ (st : Step Core). changed st.change (channels_of cs)) (e s));
      plans = d.plans;
    }

-- The same part, memory and channels under other names.
pub did_lent :
    (step : List (ℕ × ℕ) → Step Core) (t : ℕ) (x y : Partition) (m n : List ℕ) (cs ds es : List Queue) (r : Option ℕ)
    → y ≡ x → n ≡ m → es ≡ ds → Did step t x m cs ds r → Did step t y n cs es r
did_lent step t x y m n cs ds es r ex em ec d =
    record {
      part = λ s. (λ j. part_of (ex j) (em j) (s ++ said t r)) ∙ d.part s;
      change = λ s. ap channels_of ec ∙ d.change s;
      plans = ap plans_of ec ∙ d.plans;
    }

-- ---- the task that goes first

module _ (q t : ℕ) (sn : ℕ → Option Sight) (x y : Partition) (m : List ℕ) where
  -- y is x when its tasks have been looked at.
  part_looked :
      (s : List (ℕ × ℕ)) → runs_of y ≡ looked rv32i (tasks_of x) 0 t (runs_of x) → tasks_of y ≡ tasks_of x → heard_of y ≡ heard_of x
      → part_tick rv32i q t sn (tasks_of x) (part_of x m s) ≡ instruction rv32i q t sn (part_of y m s) (first_ready (tasks_of y) 0 (runs_of y))
  unfolding part_tick part_of with_tasks
  part_looked s rs ks hs =
      λ j. instruction rv32i q t sn (record { memory = m; tasks = sym rs j; heard = sym hs j; shown = s }) (first_ready (sym ks j) 0 (sym rs j))

  module _ (rs : runs_of y ≡ looked rv32i (tasks_of x) 0 t (runs_of x)) (ks : tasks_of y ≡ tasks_of x) (hs : heard_of y ≡ heard_of x) where
    pub nobody_first : first_ready (tasks_of y) 0 (runs_of y) ≡ None → (s : List (ℕ × ℕ)) → part_tick rv32i q t sn (tasks_of x) (part_of x m s) ≡ record { part = part_of y m s; change = none }
    unfolding instruction
    nobody_first e s = part_looked s rs ks hs ∙ ap (instruction rv32i q t sn (part_of y m s)) e

    pub first_does : (i : ℕ) (r : Run Core) → first_ready (tasks_of y) 0 (runs_of y) ≡ Some i → slice_get (runs_of y) i ≡ Some r
        → (s : List (ℕ × ℕ)) → part_tick rv32i q t sn (tasks_of x) (part_of x m s) ≡ acted q t sn (part_of y m s) i (act r.core m)
    unfolding instruction does part_of
    first_does i r e n s =
        part_looked s rs ks hs ∙ ap (instruction rv32i q t sn (part_of y m s)) e ∙ ap (does rv32i q t sn (part_of y m s) i) (at_drop (runs_of y) i n)
      where
        at_drop : (xs : List (Run Core)) (k : ℕ) → slice_get xs k ≡ Some r → drop k xs ≡ r ∷ drop (suc k) xs
        at_drop [] k g = let z : ◌≡◌ {A = ℕ} 0 1 = cc in absurd (omega arith)
        at_drop (z ∷ zs) zero g = let same : z ≡ r = cc in ap (λ w. w ∷ zs) same
        at_drop (z ∷ zs) (suc k) g = at_drop zs k g

-- The task that goes first is there, and ready.
module _ (y : Partition) (i : ℕ) (e : first_ready (tasks_of y) 0 (runs_of y) ≡ Some i) where
  goes_first : GoesFirst (tasks_of y) (runs_of y) i
  goes_first = subst (λ o. MatchOption o ((k : ℕ) → ReadyAt (runs_of y) k → ⊥) (λ j. GoesFirst (tasks_of y) (runs_of y) j)) e (first_ready_lem (tasks_of y) (runs_of y))

  pub first_there : i < length (tasks_of y)
  unfolding tasks_of runs_of
  first_there = omega (arith, slice_get_within _ i Ready goes_first.ready, length-map (runs_of y) (λ (r : Run Core). r.state), length-map y.tasks.items run_in, length-map y.tasks.items task_of)

  pub first_is_ready : (r : Run Core) → slice_get (runs_of y) i ≡ Some r → r.state ≡ Ready
  first_is_ready r n =
      let there : slice_get (map (λ (r : Run Core). r.state) (runs_of y)) i ≡ Some r.state = nth-map_some (λ (r : Run Core). r.state) (runs_of y) i r n in
      let both : ◌≡◌ {A = Option State} (Some r.state) (Some Ready) = sym there ∙ goes_first.ready in
      cc
