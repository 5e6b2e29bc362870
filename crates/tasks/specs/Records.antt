-- The tasks that a task table stands for: sixteen records of 256 bytes in one frame. In a record, state code (byte 0), how
-- often it was late (1), priority (2), how often it may be late (3), when it began (8 to 15), pc (16 to 19), period (20 to 23),
-- deadline (24 to 27), and register r from byte 128 + 4 r on. Assumes nothing: these are definitions.
use Rattle.std.specs.Prelude.{◌≡◌, ℕ, ◌+◌, ◌-◌, ◌*◌, ◌^◌, ◌<◌, min, cond, List, ◌∷◌, map, ◌==◌, ◌≢◌}
use Rattle.std.specs.List.{range_with_len}
use Rattle.octets.specs.Bytes.{at}
use Rattle.cpu.specs.Core.{Core}
use Rattle.model.specs.declared.plan.State.{State}
use Rattle.model.specs.declared.plan.State.TheVariants.{Ready, Waiting, Stopped}
use Rattle.model.specs.declared.plan.Task.{Task}
use Rattle.model.specs.World.{Run}
use Rattle.model.specs.Tick.{is_ready, is_waiting}

-- A state by its code: 0 and 1, and any other is stopped.
unfoldable pub state_in : ℕ → State
state_in c = cond (c == 0) Ready (cond (c == 1) Waiting Stopped)

-- How often a task has been late: code 3 says that it was late once more when it was stopped for it, so that a byte is enough.
unfoldable pub late_in : ℕ → ℕ → ℕ
late_in c n = n + cond (c == 3) 1 0

-- The core of task i: x0 is 0, whatever stands in its place.
unfoldable pub core_at : List ℕ → ℕ → Core
core_at t i = record { pc = at 4 t (256 * i + 16); x = 0 ∷ map (λ r. at 4 t (256 * i + 128 + 4 * r)) (range_with_len 1 31) }

-- Task i under way, and its plan.
unfoldable pub run_at : List ℕ → ℕ → Run Core
run_at t i =
    record {
      state = state_in (at 1 t (256 * i));
      core = core_at t i;
      began = at 8 t (256 * i + 8);
      late = late_in (at 1 t (256 * i)) (at 1 t (256 * i + 1));
    }

unfoldable pub task_at : List ℕ → ℕ → Task
task_at t i = record { priority = at 1 t (256 * i + 2); period = at 4 t (256 * i + 20); deadline = at 4 t (256 * i + 24); lates = at 1 t (256 * i + 3) }

-- The first n tasks.
unfoldable pub runs_in : ℕ → List ℕ → List (Run Core)
runs_in n t = map (run_at t) (range_with_len 0 n)

unfoldable pub tasks_in : ℕ → List ℕ → List Task
tasks_in n t = map (task_at t) (range_with_len 0 n)

-- Tables that agree on every task but i.
pub record Others (i : ℕ) (a b : List ℕ) : Type 0 where
  pub run : (j : ℕ) → (j ≢ i) → j < 16 → run_at b j ≡ run_at a j
  pub plan : (j : ℕ) → (j ≢ i) → j < 16 → task_at b j ≡ task_at a j

-- How many ticks from a time on lie before a beginning and so many ticks more; as many as can be counted, if there are more.
unfoldable pub before : ℕ → ℕ → ℕ → ℕ
before time began n = min (began + n - time) (2 ^ 64 - 1)

-- For how many ticks from a time on a task stays as it is: a ready one until its deadline, a waiting one until its period is
-- over, a stopped one for as many as can be counted.
unfoldable pub stays : Task → ℕ → Run Core → ℕ
stays k time r =
    cond (is_ready r.state) (before time r.began k.deadline) (cond (is_waiting r.state) (before time r.began k.period) (2 ^ 64 - 1))
