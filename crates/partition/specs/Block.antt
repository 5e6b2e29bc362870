-- What a partition's block stands for: a part of the model, and the plan of its tasks. Assumes nothing: these are definitions.
use Rattle.std.specs.Prelude.{◌≡◌, ℕ, ◌≤◌, List}
use Rattle.octets.specs.Bytes.{at}
use Rattle.cpu.specs.Core.{Core}
use Rattle.model.specs.declared.plan.Task.{Task}
use Rattle.model.specs.World.{Run, Part}
use Rattle.memory.specs.Frames.{memory_of, frame, Mapped}
use Rattle.tasks.specs.Records.{runs_in, tasks_in}
use Rattle.tasks.specs.Unheard.{heard_in}

-- How many tasks the partition has: the first byte of frame 4.
unfoldable pub count_of : List ℕ → ℕ
count_of b = at 1 b 16384

-- The part with these tasks under way, which has shown these bytes: its memory behind the control frames, and the unheard
-- bytes of frame 3.
unfoldable pub over : List ℕ → List (Run Core) → List (ℕ × ℕ) → Part Core
over b rs s = record { memory = memory_of b; tasks = rs; heard = heard_in (frame 3 b); shown = s }

-- The part, with the tasks of the table in frame 2, and their plan.
unfoldable pub runs_of : List ℕ → List (Run Core)
runs_of b = runs_in (count_of b) (frame 2 b)

unfoldable pub tasks_of : List ℕ → List Task
tasks_of b = tasks_in (count_of b) (frame 2 b)

unfoldable pub part_of : List ℕ → List (ℕ × ℕ) → Part Core
part_of b s = over b (runs_of b) s

-- A partition's own block: its memory is mapped, and it has no more tasks than can be carried out.
pub record Own (b : List ℕ) : Type 0 where
  pub mapped : Mapped b
  pub few : count_of b ≤ 1

-- The task table and the number of tasks stay as they were.
pub record TableKept (b b' : List ℕ) : Type 0 where
  pub table : frame 2 b' ≡ frame 2 b
  pub count : count_of b' ≡ count_of b
