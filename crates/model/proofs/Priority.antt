-- The first ready task: ready, of the highest priority, and the first of equals. Assumes nothing.
use Rattle.std.proofs.Common.{◌≡◌, ℕ, zero, suc, ◌+◌, ◌<◌, ◌≤◌, Bool, true, false, cond, ltb, List, [], ◌∷◌, Some, None, Option, sym, refl, ap, ◌∙◌, subst, add-zero, zero-add, arith, MatchOption}
use Rattle.std.proofs.lemmas.Bool.{ltb-true, ltb-false}
use Rattle.model.specs.declared.plan.Task.{Task}
use Rattle.model.specs.declared.plan.State.{State}
use Rattle.model.specs.declared.plan.State.TheVariants.{Ready, Waiting, Stopped}
use Rattle.model.specs.World.{Run}
use Rattle.model.specs.Tick.{is_ready, better, first_ready}
use Rattle.model.specs.Promise.{ReadyAt, priority_of, GoesFirst, FirstReady}

-- The same of tasks i, i + 1, and so on: task i + m goes first.
record FirstFrom {C : Type 0} (ks : List Task) (i : ℕ) (rs : List (Run C)) (j : ℕ) : Type 0 where
  place : ℕ
  is : j ≡ i + place
  ready : ReadyAt rs place
  highest : (k : ℕ) → ReadyAt rs k → priority_of ks (i + k) ≤ priority_of ks j
  first : (k : ℕ) → ReadyAt rs k → k < place → priority_of ks (i + k) < priority_of ks j

abbrev Found : {C : Type 0} → List Task → ℕ → List (Run C) → Option ℕ → Type 0
Found ks i rs o = MatchOption o ((k : ℕ) → ReadyAt rs k → ⊥) (λ j. FirstFrom ks i rs j)

moved : (i k : ℕ) → i + suc k ≡ suc i + k
moved i k = omega arith

module _ {C : Type 0} (ks : List Task) where
  -- One behind goes first where the one in front, if it is ready, has a lower priority.
  behind :
      (i : ℕ) (r : Run C) (rs : List (Run C)) (j : ℕ) → FirstFrom ks (suc i) rs j →
      (r.state ≡ Ready → priority_of ks i < priority_of ks j) → FirstFrom ks i (r ∷ rs) j
  behind i r rs j f h = record {
    place = suc f.place;
    is = f.is ∙ omega arith;
    ready = f.ready;
    highest = elim [
      | zero ↦ λ e. rw (add-zero i)
          (let x : priority_of ks i < priority_of ks j = h (cc) in omega arith)
      | suc k ↦ λ e. rw (moved i k) (f.highest k e)
    ];
    first = elim [ zero ↦ λ e l. rw (add-zero i) (h (cc)) | suc k ↦ λ e l. rw (moved i k) (f.first k e (omega arith)) ];
  }

  -- A task that is not ready in front changes nothing.
  not_ready :
      (i : ℕ) (r : Run C) (rs : List (Run C)) → (r.state ≡ Ready → ⊥) → (o : Option ℕ) → Found ks (suc i) rs o →
      Found ks i (r ∷ rs) o
  not_ready i r rs h None f = elim [ zero ↦ λ e. h (cc) | suc k ↦ λ e. f k e ]
  not_ready i r rs h (Some j) f = behind i r rs j f (λ e. absurd (h e))

  -- One that is ready goes first unless one behind it has a higher priority.
  is_ready_lem :
      (i : ℕ) (r : Run C) (rs : List (Run C)) → r.state ≡ Ready → (o : Option ℕ) → Found ks (suc i) rs o →
      Found ks i (r ∷ rs) (better ks i true o)
  unfolding better
  is_ready_lem i r rs h None f = record {
    place = 0;
    is = sym (add-zero i);
    ready = ap {B = Option State} Some h;
    highest = elim [ zero ↦ λ e. rw (add-zero i) (omega arith) | suc k ↦ λ e. absurd (f k e) ];
    first = λ k e l. absurd (omega arith);
  }
  is_ready_lem i r rs h (Some j) f = go (ltb (priority_of ks i) (priority_of ks j)) refl
    where
      go : (b : Bool) → ltb (priority_of ks i) (priority_of ks j) ≡ b → FirstFrom ks i (r ∷ rs) (cond b j i)
      go true e = behind i r rs j f (λ _. ltb-true _ _ e)
      go false e =
          let low : priority_of ks j ≤ priority_of ks i = ltb-false _ _ e in
          record {
            place = 0;
            is = sym (add-zero i);
            ready = ap {B = Option State} Some h;
            highest = elim [
              | zero ↦ λ e. rw (add-zero i) (omega arith)
              | suc k ↦ λ e. rw (moved i k)
                  (let x : priority_of ks (suc i + k) ≤ priority_of ks j = f.highest k e in omega arith)
            ];
            first = λ k e l. absurd (omega arith);
          }

  found : (rs : List (Run C)) (i : ℕ) → Found ks i rs (first_ready ks i rs)
  unfolding first_ready is_ready better
  found [] i = λ k e. let z : ◌≡◌ {A = ℕ} 0 1 = cc in omega arith
  found (r ∷ rs) i = go r.state refl (found rs (suc i))
    where
      go :
          (s : State) → r.state ≡ s → Found ks (suc i) rs (first_ready ks (suc i) rs) →
          Found ks i (r ∷ rs) (better ks i (is_ready s) (first_ready ks (suc i) rs))
      go Ready e f = is_ready_lem i r rs e (first_ready ks (suc i) rs) f
      go Waiting e f = not_ready i r rs (λ h. let z : ◌≡◌ {A = ℕ} 0 1 = cc in omega arith) (first_ready ks (suc i) rs) f
      go Stopped e f = not_ready i r rs (λ h. let z : ◌≡◌ {A = ℕ} 0 1 = cc in omega arith) (first_ready ks (suc i) rs) f

pub first_ready_lem : {C : Type 0} → FirstReady C
first_ready_lem ks rs = go (first_ready ks 0 rs) (found ks rs 0)
  where
    go : (o : Option ℕ) → Found ks 0 rs o → MatchOption o ((k : ℕ) → ReadyAt rs k → ⊥) (λ j. GoesFirst ks rs j)
    go None f = f
    go (Some j) f = record {
      ready = subst (ReadyAt rs) (sym (f.is ∙ zero-add f.place)) f.ready;
      highest = λ k e. rw (zero-add k) at (f.highest k e);
      first = λ k e l. rw (zero-add k) at (f.first k e (subst (λ n. k < n) (f.is ∙ zero-add f.place) l));
    }
