-- A partition with one task: looking at it, ticks in which it is not ready, and ticks in which it goes.
use Rattle.std.proofs.Common.{◌≡◌, ℕ, zero, suc, ◌+◌, ◌*◌, ◌<◌, ◌≤◌, Bool, true, false, cond, ◌&&◌, leb, List, [], ◌∷◌, ◌++◌, map, length, None, sym, refl, ap, ◌∙◌, append_assoc, arith}
use Rattle.std.specs.List.{range_with_len}
use Rattle.std.proofs.lemmas.List.{append-nil, length-append}
use Rattle.cpu.specs.Core.{Core}
use Rattle.cpu.specs.Rv32i.{rv32i}
use Rattle.model.specs.declared.plan.Task.{Task}
use Rattle.model.specs.declared.plan.State.TheVariants.{Ready, Waiting, Stopped}
use Rattle.model.specs.World.{Run}
use Rattle.model.specs.Tick.{is_ready, is_waiting, better, first_ready, looked, checked, woken, with_tasks, update, goes_on}
use Rattle.memory.specs.Frames.{memory_of, frame, OnlyFrame}
use Rattle.tasks.specs.Records.{run_at, task_at, runs_in, tasks_in}
use Rattle.tasks.specs.Unheard.{heard_in}
use Rattle.tasks.proofs.Looking.{ready_is}
use Rattle.partition.specs.Block.{count_of, over, runs_of, tasks_of, part_of}
use Rattle.partition.specs.Stretch.{part_ticks, looked_ticks, Busy}
use Rattle.partition.specs.Shown.{Ran}
use Rattle.partition.specs.declared.came.Burst.{Burst}
use Rattle.partition.specs.Steps.{ended_by, Bursted}
use Rattle.partition.proofs.Ticks.{part_ticks_add, idle_ticks, idle_looked, look_first}
use Rattle.partition.proofs.Bursts.{put-none, entries_behind}
use Rattle.partition.proofs.Kept.{unheard_kept, count_kept}
use Rattle.partition.specs.declared.shown.Shown.{Shown}

pub one_run : (b : List ℕ) → count_of b ≡ 1 → runs_of b ≡ run_at (frame 2 b) 0 ∷ []
unfolding runs_of runs_in
one_run b e = ap (λ n. map (run_at (frame 2 b)) (range_with_len 0 n)) e

pub one_task : (b : List ℕ) → count_of b ≡ 1 → tasks_of b ≡ task_at (frame 2 b) 0 ∷ []
unfolding tasks_of tasks_in
one_task b e = ap (λ n. map (task_at (frame 2 b)) (range_with_len 0 n)) e

-- With the same memory and the same unheard bytes it is the same part but for its tasks.
pub over_same : (a b : List ℕ) → memory_of b ≡ memory_of a → frame 3 b ≡ frame 3 a → (rs : List (Run Core)) (s : List (ℕ × ℕ)) → over b rs s ≡ over a rs s
unfolding over
over_same a b m f rs s = λ j. record { memory = m j; tasks = rs; heard = heard_in (f j); shown = s }

with_over : (b : List ℕ) (rs ws : List (Run Core)) (s : List (ℕ × ℕ)) → with_tasks (over b rs s) ws ≡ over b ws s
unfolding with_tasks over
with_over b rs ws s = refl

tasks_over : (b : List ℕ) (rs : List (Run Core)) (s : List (ℕ × ℕ)) → (over b rs s).tasks ≡ rs
unfolding over
tasks_over b rs s = refl

-- One task looked at.
look_one : (k : Task) (r : Run Core) (t : ℕ) → looked rv32i (k ∷ []) 0 t (r ∷ []) ≡ checked k t (woken rv32i k 0 t r) ∷ []
unfolding looked
look_one k r t = refl

pub plan_kept : (a b : List ℕ) → count_of a ≡ 1 → count_of b ≡ count_of a → task_at (frame 2 b) 0 ≡ task_at (frame 2 a) 0 → tasks_of b ≡ tasks_of a
plan_kept a b one same e = one_task b (same ∙ one) ∙ ap (λ k. k ∷ []) e ∙ sym (one_task a one)

-- The task was looked at in the table.
pub looked_part :
    (a b : List ℕ) (t : ℕ) (s : List (ℕ × ℕ)) → count_of a ≡ 1 → OnlyFrame 2 a b →
    run_at (frame 2 b) 0 ≡ checked (task_at (frame 2 a) 0) t (woken rv32i (task_at (frame 2 a) 0) 0 t (run_at (frame 2 a) 0)) →
    part_of b s ≡ with_tasks (part_of a s) (looked rv32i (tasks_of a) 0 t (part_of a s).tasks)
unfolding part_of
looked_part a b t s one only e =
    over_same a b only.memory (unheard_kept only) (runs_of b) s
    ∙ ap (λ rs. over a rs s) (one_run b (count_kept only ∙ one) ∙ ap (λ r. r ∷ []) e ∙ sym (look_one (task_at (frame 2 a) 0) (run_at (frame 2 a) 0) t))
    ∙ (λ j. over a (looked rv32i (sym (one_task a one) j) 0 t (sym (one_run a one) j)) s)
    ∙ ap (λ rs. over a (looked rv32i (tasks_of a) 0 t rs) s) (sym (tasks_over a (runs_of a) s))
    ∙ sym (with_over a (runs_of a) (looked rv32i (tasks_of a) 0 t (over a (runs_of a) s).tasks) s)

none_ready : (k : Task) (r : Run Core) → is_ready r.state ≡ false → first_ready (k ∷ []) 0 (r ∷ []) ≡ None
unfolding first_ready better
none_ready k r e = ap (λ f. better (k ∷ []) 0 f None) e

goes_self : (r : Run Core) → is_ready r.state ≡ true → goes_on r.core r ≡ r
unfolding goes_on
goes_self r e = ap (λ s. record { state = s; core = r.core; began = r.began; late = r.late }) (sym (ready_is r.state e))

-- A ready task that a look leaves as it is is not late, and so it is with any core.
not_late : (k : Task) (u : ℕ) (r : Run Core) (b : Bool) → r.state ≡ Ready →
    cond b (record { state = cond (leb k.lates r.late) Stopped Waiting; core = r.core; began = r.began; late = suc r.late }) r ≡ r → b ≡ false
not_late k u r false s e = refl
not_late k u r true s e = absurd (never (leb k.lates r.late) (ap (λ w. w.state) e ∙ s))
  where
    never : (b : Bool) → cond b Stopped Waiting ≡ Ready → ⊥
    never true e = let z : ◌≡◌ {A = ℕ} 0 1 = cc in omega arith
    never false e = let z : ◌≡◌ {A = ℕ} 0 1 = cc in omega arith

woken_ready : (k : Task) (u : ℕ) (r : Run Core) → r.state ≡ Ready → woken rv32i k 0 u r ≡ r
unfolding woken is_waiting
woken_ready k u r e =
    ap (λ s. cond (is_waiting s && leb (r.began + k.period) u) (record { state = Ready; core = rv32i.fresh 0; began = r.began + k.period; late = r.late }) r) e

abbrev late_run : Task → Run Core → Run Core
late_run k r = record { state = cond (leb k.lates r.late) Stopped Waiting; core = r.core; began = r.began; late = suc r.late }

checked_ready : (k : Task) (u : ℕ) (r : Run Core) → r.state ≡ Ready → checked k u r ≡ cond (leb (r.began + k.deadline) u) (late_run k r) r
unfolding checked is_ready
checked_ready k u r e = ap (λ s. cond (is_ready s && leb (r.began + k.deadline) u) (late_run k r) r) e

look_core :
    (k : Task) (u : ℕ) (r : Run Core) (c : Core) → is_ready r.state ≡ true → checked k u (woken rv32i k 0 u r) ≡ r →
    checked k u (woken rv32i k 0 u (goes_on c r)) ≡ goes_on c r
unfolding goes_on
look_core k u r c ready same =
    ap (checked k u) (woken_ready k u (goes_on c r) refl)
    ∙ checked_ready k u (goes_on c r) refl
    ∙ ap (λ b. cond b (late_run k (goes_on c r)) (goes_on c r)) in_time
  where
    is : r.state ≡ Ready
    is = ready_is r.state ready

    in_time : leb (r.began + k.deadline) u ≡ false
    in_time = not_late k u r (leb (r.began + k.deadline) u) is (sym (checked_ready k u r is) ∙ ap (checked k u) (sym (woken_ready k u r is)) ∙ same)

-- What was read in a record is what the task has.
pub still_for :
    (k k' : Task) (r r' : Run Core) (i t : ℕ) → k ≡ k' → r ≡ r' → i ≡ 0 → checked k t (woken rv32i k i t r) ≡ r →
    checked k' t (woken rv32i k' 0 t r') ≡ r'
still_for k k' r r' i t ek er ei e = sym (λ j. checked (ek j) t (woken rv32i (ek j) (ei j) t (er j))) ∙ e ∙ er

-- Ticks in a row.
pub ran_then :
    (a b d : List ℕ) (z z₁ z₂ : Shown) (t m n : ℕ) → Ran a b z z₁ t m → Ran b d z₁ z₂ (t + m) n → z.«at» + 9 * (m + n) ≤ length z.bytes.now →
    Ran a d z z₂ t (m + n)
ran_then a b d z z₁ z₂ t m n x y room =
    record {
      entries = x.entries ++ y.entries;
      part = λ q s.
          ap (part_of d) (sym (append_assoc s x.entries y.entries))
          ∙ y.part q (s ++ x.entries)
          ∙ ap (λ ks. part_ticks q ks (t + m) n (part_of b (s ++ x.entries))) x.plan
          ∙ ap (part_ticks q (tasks_of a) (t + m) n) (x.part q s)
          ∙ sym (part_ticks_add q (tasks_of a) t m n (part_of a s));
      slice = entries_behind z.bytes.now z₁.bytes.now z₂.bytes.now z.«at» z₁.«at» x.entries y.entries x.slice x.behind y.slice (omega (arith, x.few, y.few));
      bytes = y.bytes ∙ x.bytes;
      behind = omega (arith, x.behind, y.behind, length-append x.entries y.entries);
      few = omega (arith, x.few, y.few, length-append x.entries y.entries);
      plan = y.plan ∙ x.plan;
      count = y.count ∙ x.count;
    }

-- No ticks, and ticks of a partition with no tasks.
pub ran_none : (b : List ℕ) (z : Shown) (t : ℕ) → Ran b b z z t 0
unfolding part_ticks
ran_none b z t =
    record {
      entries = [];
      part = λ q s. ap (part_of b) (append-nil s);
      slice = sym (put-none z.bytes.now z.«at»);
      bytes = refl;
      behind = omega arith;
      few = omega arith;
      plan = refl;
      count = refl;
    }

tasks_part : (b : List ℕ) (s : List (ℕ × ℕ)) → (part_of b s).tasks ≡ runs_of b
unfolding part_of over
tasks_part b s = refl

part_one : (b : List ℕ) (s : List (ℕ × ℕ)) → count_of b ≡ 1 → part_of b s ≡ over b (run_at (frame 2 b) 0 ∷ []) s
unfolding part_of
part_one b s one = ap (λ rs. over b rs s) (one_run b one)

no_runs : (b : List ℕ) → count_of b ≡ 0 → runs_of b ≡ []
unfolding runs_of runs_in
no_runs b none = ap (λ n. map (run_at (frame 2 b)) (range_with_len 0 n)) none

looked_empty : (ks : List Task) (u : ℕ) → looked rv32i ks 0 u [] ≡ []
unfolding looked
looked_empty ks u = refl

first_empty : (ks : List Task) → first_ready {C = Core} ks 0 [] ≡ None
unfolding first_ready
first_empty ks = refl

pub ran_nobody : (b : List ℕ) (z : Shown) (t n : ℕ) → count_of b ≡ 0 → Ran b b z z t n
ran_nobody b z t n none =
    record {
      entries = [];
      part = λ q s.
          ap (part_of b) (append-nil s)
          ∙ sym
          (idle_ticks q (tasks_of b) t n (part_of b s)
          (λ j h. ap (looked rv32i (tasks_of b) 0 (t + j)) (runs s) ∙ looked_empty (tasks_of b) (t + j) ∙ sym (runs s)) (ap (first_ready (tasks_of b) 0) (runs s) ∙ first_empty (tasks_of b)));
      slice = sym (put-none z.bytes.now z.«at»);
      bytes = refl;
      behind = omega arith;
      few = omega arith;
      plan = refl;
      count = refl;
    }
  where
    runs : (s : List (ℕ × ℕ)) → (part_of b s).tasks ≡ []
    runs s = tasks_part b s ∙ no_runs b none

-- Ticks in which the task is not ready, from its look on.
pub ran_idle :
    (a b : List ℕ) (z : Shown) (t n : ℕ) → count_of a ≡ 1 → OnlyFrame 2 a b → 0 < n →
    run_at (frame 2 b) 0 ≡ checked (task_at (frame 2 a) 0) t (woken rv32i (task_at (frame 2 a) 0) 0 t (run_at (frame 2 a) 0)) →
    task_at (frame 2 b) 0 ≡ task_at (frame 2 a) 0 → is_ready (run_at (frame 2 b) 0).state ≡ false →
    ((j : ℕ) → j + 1 < n → checked (task_at (frame 2 b) 0) (t + 1 + j) (woken rv32i (task_at (frame 2 b) 0) 0 (t + 1 + j) (run_at (frame 2 b) 0)) ≡ run_at (frame 2 b) 0) →
    Ran a b z z t n
ran_idle a b z t n one only some run plan idle still =
    record {
      entries = [];
      part = λ q s.
          ap (part_of b) (append-nil s)
          ∙ sym (look_first q (tasks_of a) t n (part_of a s) (part_of b s) (looked_part a b t s one only run) some ∙ idle_looked q (tasks_of a) t n (part_of b s) (same s) (first s));
      slice = sym (put-none z.bytes.now z.«at»);
      bytes = refl;
      behind = omega arith;
      few = omega arith;
      plan = plan_kept a b one (count_kept only) plan;
      count = count_kept only;
    }
  where
    runs : (s : List (ℕ × ℕ)) → (part_of b s).tasks ≡ run_at (frame 2 b) 0 ∷ []
    runs s = tasks_part b s ∙ one_run b (count_kept only ∙ one)

    tasks : tasks_of a ≡ task_at (frame 2 b) 0 ∷ []
    tasks = one_task a one ∙ ap (λ k. k ∷ []) (sym plan)

    same : (s : List (ℕ × ℕ)) (j : ℕ) → j + 1 < n → looked rv32i (tasks_of a) 0 (t + 1 + j) (part_of b s).tasks ≡ (part_of b s).tasks
    same s j h =
        (λ i. looked rv32i (tasks i) 0 (t + 1 + j) (runs s i))
        ∙ look_one (task_at (frame 2 b) 0) (run_at (frame 2 b) 0) (t + 1 + j)
        ∙ ap (λ r. r ∷ []) (still j h)
        ∙ sym (runs s)

    first : (s : List (ℕ × ℕ)) → first_ready (tasks_of a) 0 (part_of b s).tasks ≡ None
    first s = (λ i. first_ready (tasks i) 0 (runs s i)) ∙ none_ready (task_at (frame 2 b) 0) (run_at (frame 2 b) 0) idle

-- The one task goes, whatever its core is, as long as looking leaves it as it is.
pub one_busy :
    (k : Task) (r : Run Core) (t n : ℕ) → is_ready r.state ≡ true →
    ((j : ℕ) → j + 1 < n → checked k (t + 1 + j) (woken rv32i k 0 (t + 1 + j) r) ≡ r) → Busy (k ∷ []) (r ∷ []) 0 t n
unfolding update first_ready better goes_on is_ready
one_busy k r t n ready still =
    record {
      there = omega arith;
      first = λ c. refl;
      still = λ c j some lt. look_one k (goes_on c r) (t + j) ∙ ap (λ r. r ∷ []) (at-core c j some lt);
    }
  where
    at-core : (c : Core) (j : ℕ) → 0 < j → j < n → checked k (t + j) (woken rv32i k 0 (t + j) (goes_on c r)) ≡ goes_on c r
    at-core c zero some lt = absurd (omega arith)
    at-core c (suc j) some lt = let u : t + suc j ≡ t + 1 + j = omega arith in look_core k (t + suc j) r c ready (ap (λ u. checked k u (woken rv32i k 0 u r)) u ∙ still j (omega arith))

update_one : (r : Run Core) (f : Run Core → Run Core) → update (r ∷ []) 0 f ≡ f r ∷ []
unfolding update
update_one r f = refl

-- Ticks in which the task goes, from its look on, until what became of it is in the table again.
pub ran_busy :
    (a b₁ b₂ b₃ : List ℕ) (z z' : Shown) (t n : ℕ) (c c' : Core) (r : Burst) → count_of a ≡ 1 → OnlyFrame 2 a b₁ →
    run_at (frame 2 b₁) 0 ≡ checked (task_at (frame 2 a) 0) t (woken rv32i (task_at (frame 2 a) 0) 0 t (run_at (frame 2 a) 0)) →
    task_at (frame 2 b₁) 0 ≡ task_at (frame 2 a) 0 → is_ready (run_at (frame 2 b₁) 0).state ≡ true →
    ((j : ℕ) → j + 1 < n → checked (task_at (frame 2 b₁) 0) (t + 1 + j) (woken rv32i (task_at (frame 2 b₁) 0) 0 (t + 1 + j) (run_at (frame 2 b₁) 0)) ≡ run_at (frame 2 b₁) 0) →
    c ≡ (run_at (frame 2 b₁) 0).core → Bursted b₁ b₂ c c' z z' t n r → 0 < r.ticks → OnlyFrame 2 b₂ b₃ →
    run_at (frame 2 b₃) 0 ≡ ended_by r.«end» c' (run_at (frame 2 b₂) 0) → task_at (frame 2 b₃) 0 ≡ task_at (frame 2 b₂) 0 →
    Ran a b₃ z z' t r.ticks
ran_busy a b₁ b₂ b₃ z z' t n c c' r one only run plan ready still core done some left ended planned =
    record {
      entries = done.entries;
      part = λ q s.
          part_is s
          ∙ sym
          (look_first q (tasks_of a) t r.ticks (part_of a s) (part_of b₁ s) (looked_part a b₁ t s one only run) some
          ∙ (λ i. looked_ticks q (tasks i) t r.ticks (begins s i))
          ∙ done.part q 0 (task_at (frame 2 b₁) 0 ∷ []) (run_at (frame 2 b₁) 0 ∷ []) s (one_busy (task_at (frame 2 b₁) 0) (run_at (frame 2 b₁) 0) t n ready still));
      slice = done.slice;
      behind = done.behind;
      bytes = done.bytes;
      few = done.few;
      count = count;
      plan = plan_kept a b₃ one count (planned ∙ ap (λ f. task_at f 0) done.kept.table ∙ plan);
    }
  where
    count : count_of b₃ ≡ count_of a
    count = count_kept left ∙ done.kept.count ∙ count_kept only

    tasks : tasks_of a ≡ task_at (frame 2 b₁) 0 ∷ []
    tasks = one_task a one ∙ ap (λ k. k ∷ []) (sym plan)

    begins : (s : List (ℕ × ℕ)) → part_of b₁ s ≡ over b₁ (update (run_at (frame 2 b₁) 0 ∷ []) 0 (goes_on c)) s
    begins s =
        part_one b₁ s (count_kept only ∙ one)
        ∙ ap (λ w. over b₁ (w ∷ []) s) (sym (ap (λ d. goes_on d (run_at (frame 2 b₁) 0)) core ∙ goes_self (run_at (frame 2 b₁) 0) ready))
        ∙ ap (λ ws. over b₁ ws s) (sym (update_one (run_at (frame 2 b₁) 0) (goes_on c)))

    part_is : (s : List (ℕ × ℕ)) → part_of b₃ (s ++ done.entries) ≡ over b₂ (update (run_at (frame 2 b₁) 0 ∷ []) 0 (ended_by r.«end» c')) (s ++ done.entries)
    part_is s =
        part_one b₃ (s ++ done.entries) (count ∙ one)
        ∙ ap (λ w. over b₃ (w ∷ []) (s ++ done.entries)) (ended ∙ ap (λ f. ended_by r.«end» c' (run_at f 0)) done.kept.table)
        ∙ over_same b₂ b₃ left.memory (unheard_kept left) (ended_by r.«end» c' (run_at (frame 2 b₁) 0) ∷ []) (s ++ done.entries)
        ∙ ap (λ ws. over b₂ ws (s ++ done.entries)) (sym (update_one (run_at (frame 2 b₁) 0) (ended_by r.«end» c')))
