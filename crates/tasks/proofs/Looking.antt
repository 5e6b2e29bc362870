-- What becomes of a task, case by case, and for how long nothing does.
use Rattle.std.proofs.Common.{◌≡◌, ℕ, suc, ◌+◌, ◌-◌, ◌^◌, ◌<◌, ◌≤◌, true, false, cond, ◌&&◌, leb, sym, refl, ap, ◌∙◌, ⊎_elim, arith}
use Rattle.std.proofs.lemmas.Bool.{cond-true, cond-false, and_left, and_right, and_from, lt-leb, le-leb, cases_lt}
use Rattle.cpu.specs.Core.{Core}
use Rattle.cpu.specs.Rv32i.{rv32i}
use Rattle.model.specs.declared.plan.Task.{Task}
use Rattle.model.specs.declared.plan.State.{State}
use Rattle.model.specs.declared.plan.State.TheVariants.{Ready, Waiting, Stopped}
use Rattle.model.specs.World.{Run}
use Rattle.model.specs.Tick.{is_ready, is_waiting, woken, checked}
use Rattle.tasks.specs.Records.{before, stays}

pub not_waiting : (s : State) → (s ≡ Waiting → ⊥) → is_waiting s ≡ false
unfolding is_waiting
not_waiting Ready h = refl
not_waiting Waiting h = absurd (h refl)
not_waiting Stopped h = refl

pub not_ready : (s : State) → (s ≡ Ready → ⊥) → is_ready s ≡ false
unfolding is_ready
not_ready Ready h = absurd (h refl)
not_ready Waiting h = refl
not_ready Stopped h = refl

-- Whether a state is ready, by the state that it is.
pub ready_true : (s : State) → Ready ≡ s → true ≡ is_ready s
unfolding is_ready
ready_true s e = ap is_ready e

pub ready_false : (s t : State) → (t ≡ Ready → ⊥) → t ≡ s → false ≡ is_ready s
ready_false s t h e = sym (not_ready s (λ r. h (e ∙ r)))

pub is_waiting_lem : (s : State) → s ≡ Waiting → is_waiting s ≡ true
unfolding is_waiting
is_waiting_lem s e = ap is_waiting e

pub is_ready_lem : (s : State) → s ≡ Ready → is_ready s ≡ true
unfolding is_ready
is_ready_lem s e = ap is_ready e

pub ready_is : (s : State) → is_ready s ≡ true → s ≡ Ready
unfolding is_ready
ready_is Ready e = refl
ready_is Waiting e = cc
ready_is Stopped e = cc

pub ready_not_stopped : (s : State) → s ≡ Ready → s ≡ Stopped → ⊥
ready_not_stopped s p q = let z : ◌≡◌ {A = ℕ} 0 1 = cc in omega arith

pub waiting_not_stopped : (s : State) → s ≡ Waiting → s ≡ Stopped → ⊥
waiting_not_stopped s p q = let z : ◌≡◌ {A = ℕ} 0 1 = cc in omega arith

ready_not_waiting : (s : State) → s ≡ Ready → s ≡ Waiting → ⊥
ready_not_waiting s p q = let z : ◌≡◌ {A = ℕ} 0 1 = cc in omega arith

module _ (k : Task) (i t : ℕ) (r : Run Core) where
  pub woken_other : (r.state ≡ Waiting → ⊥) → r ≡ woken rv32i k i t r
  unfolding woken
  woken_other h = sym (cond-false _ _ _ (and_left _ _ (not_waiting r.state h)))

  pub woken_early : leb (r.began + k.period) t ≡ false → r ≡ woken rv32i k i t r
  unfolding woken
  woken_early h = sym (cond-false _ _ _ (and_right (is_waiting r.state) _ h))

  pub woken_now :
      r.state ≡ Waiting → leb (r.began + k.period) t ≡ true
      → record { state = Ready; core = rv32i.fresh i; began = r.began + k.period; late = r.late } ≡ woken rv32i k i t r
  unfolding woken
  woken_now s h = sym (cond-true _ _ _ (and_from _ _ (is_waiting_lem r.state s) h))

module _ (k : Task) (t : ℕ) (r : Run Core) where
  pub checked_other : (r.state ≡ Ready → ⊥) → r ≡ checked k t r
  unfolding checked
  checked_other h = sym (cond-false _ _ _ (and_left _ _ (not_ready r.state h)))

  pub checked_early : leb (r.began + k.deadline) t ≡ false → r ≡ checked k t r
  unfolding checked
  checked_early h = sym (cond-false _ _ _ (and_right (is_ready r.state) _ h))

  checked_late :
      (s : State) → cond (leb k.lates r.late) Stopped Waiting ≡ s → r.state ≡ Ready → leb (r.began + k.deadline) t ≡ true
      → record { state = s; core = r.core; began = r.began; late = suc r.late } ≡ checked k t r
  unfolding checked
  checked_late s e q h =
      ap (λ x. record { state = x; core = r.core; began = r.began; late = suc r.late }) (sym e) ∙ sym (cond-true _ _ _ (and_from _ _ (is_ready_lem r.state q) h))

  pub checked_stops :
      r.state ≡ Ready → leb (r.began + k.deadline) t ≡ true → k.lates ≤ r.late
      → record { state = Stopped; core = r.core; began = r.began; late = suc r.late } ≡ checked k t r
  checked_stops q h l = checked_late Stopped (cond-true _ _ _ (le-leb _ _ l)) q h

  pub checked_waits :
      r.state ≡ Ready → leb (r.began + k.deadline) t ≡ true → r.late < k.lates
      → record { state = Waiting; core = r.core; began = r.began; late = suc r.late } ≡ checked k t r
  checked_waits q h l = checked_late Waiting (cond-false _ _ _ (lt-leb _ _ l)) q h

  -- A look never moves the beginning back; it counts only a ready task late.
  pub checked_began : (checked k t r).began ≡ r.began
  unfolding checked
  checked_began = elim (is_ready r.state && leb (r.began + k.deadline) t)
      as (λ b. (cond b (record { state = cond (leb k.lates r.late) Stopped Waiting; core = r.core; began = r.began; late = suc r.late }) r).began ≡ r.began)
      [ true ↦ refl | false ↦ refl ]

-- For how long a task stays, state by state.
module _ (k : Task) (time : ℕ) (r : Run Core) where
  pub stays_ready : r.state ≡ Ready → stays k time r ≡ before time r.began k.deadline
  unfolding stays
  stays_ready e = cond-true _ _ _ (is_ready_lem r.state e)

  pub stays_waiting : r.state ≡ Waiting → stays k time r ≡ before time r.began k.period
  unfolding stays
  stays_waiting e = cond-false _ _ _ (not_ready r.state (λ q. ready_not_waiting r.state q e)) ∙ cond-true _ _ _ (is_waiting_lem r.state e)

  pub stays_stopped : r.state ≡ Stopped → stays k time r ≡ 2 ^ 64 - 1
  unfolding stays
  stays_stopped e =
      cond-false _ _ _ (not_ready r.state (λ q. ready_not_stopped r.state q e)) ∙ cond-false _ _ _ (not_waiting r.state (λ q. waiting_not_stopped r.state q e))

-- Until then nothing becomes of it.
module _ (k : Task) (i time : ℕ) (r : Run Core) where
  unchanged : (t : ℕ) → woken rv32i k i t r ≡ r → checked k t r ≡ r → checked k t (woken rv32i k i t r) ≡ r
  unchanged t p q = ap (checked k t) p ∙ q

  within : (began n j : ℕ) → j < before time began n → leb (began + n) (time + j) ≡ false
  unfolding before
  within began n j h = lt-leb (began + n) (time + j) (omega arith)

  pub stays_still : (s : State) → r.state ≡ s → (j : ℕ) → j < stays k time r → checked k (time + j) (woken rv32i k i (time + j) r) ≡ r
  stays_still Ready e j h =
      let q = stays_ready k time r e in
      unchanged (time + j) (sym (woken_other k i (time + j) r (λ w. ready_not_waiting r.state e w)))
      (sym (checked_early k (time + j) r (within r.began k.deadline j (omega arith))))
  stays_still Waiting e j h =
      let q = stays_waiting k time r e in
      unchanged (time + j) (sym (woken_early k i (time + j) r (within r.began k.period j (omega arith))))
      (sym (checked_other k (time + j) r (λ w. ready_not_waiting r.state w e)))
  stays_still Stopped e j h =
      unchanged (time + j) (sym (woken_other k i (time + j) r (λ w. waiting_not_stopped r.state w e)))
      (sym (checked_other k (time + j) r (λ w. ready_not_stopped r.state w e)))

  -- A task that a look leaves as it is stays so for this tick at least.
  over : (began n : ℕ) → before time began n ≤ 0 → began + n ≤ time
  unfolding before
  over began n h = omega arith

  pub stays_some : (s : State) → r.state ≡ s → checked k time (woken rv32i k i time r) ≡ r → 0 < k.period → 0 < stays k time r
  stays_some Ready e same p =
      ⊎_elim (λ (h : 0 < stays k time r). h)
      (λ (h : stays k time r ≤ 0).
      let q = stays_ready k time r e in
      let o = over r.began k.deadline (omega arith) in
      absurd (late_not (ap (checked k time) (woken_other k i time r (λ w. ready_not_waiting r.state e w)) ∙ same) (le-leb _ _ o)))
      (cases_lt 0 (stays k time r))
    where
      late_not : checked k time r ≡ r → leb (r.began + k.deadline) time ≡ true → ⊥
      late_not eq l =
          ⊎_elim (λ (m : r.late < k.lates). let n = ap (λ x. x.late) (checked_waits k time r e l m ∙ eq) in omega arith)
          (λ (m : k.lates ≤ r.late). let n = ap (λ x. x.late) (checked_stops k time r e l m ∙ eq) in omega arith)
          (cases_lt r.late k.lates)
  stays_some Waiting e same p =
      ⊎_elim (λ (h : 0 < stays k time r). h)
      (λ (h : stays k time r ≤ 0).
      let q = stays_waiting k time r e in
      let o = over r.began k.period (omega arith) in
      let w = woken_now k i time r e (le-leb _ _ o) in
      let b : r.began + k.period ≡ r.began = ap (λ x. x.began) w ∙ sym (checked_began k time (woken rv32i k i time r)) ∙ ap (λ x. x.began) same in
      absurd (omega arith))
      (cases_lt 0 (stays k time r))
  stays_some Stopped e same p = let q = stays_stopped k time r e in omega arith
