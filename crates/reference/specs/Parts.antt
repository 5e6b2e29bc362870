-- What a task and a partition of the program stand for. Assumes nothing: these are definitions.
use Rattle.std.specs.Prelude.{◌≡◌, ℕ, List, [], map}
use Rattle.cpu.specs.Core.{Core}
use Rattle.cpu.specs.Rv32i.{rv32i}
use Rattle.cpu.specs.Held.{core_of}
use Rattle.model.specs.declared.plan.Task.{Task}
use Rattle.model.specs.World.{Run, Part}
use Rattle.model.specs.Tick.{new_runs}
use Rattle.reference.specs.declared.task.Progress.{Progress}
use Rattle.reference.specs.declared.task.Running.{Running}
use Rattle.reference.specs.declared.part.Partition.{Partition}
use Rattle.reference.specs.Kept.{held}

unfoldable pub run_of : Progress → Run Core
run_of r = record { state = r.state; core = core_of r.core; began = r.began; late = r.late }

abbrev pub run_in : Running → Run Core
run_in t = run_of t.progress

abbrev pub task_of : Running → Task
task_of t = t.plan

-- The plan of a partition's tasks, and the tasks under way.
unfoldable pub tasks_of : Partition → List Task
tasks_of x = map task_of x.tasks.items

unfoldable pub runs_of : Partition → List (Run Core)
runs_of x = map run_in x.tasks.items

unfoldable pub heard_of : Partition → List ℕ
heard_of x = held x.heard

-- The part with this memory, which has shown these bytes.
unfoldable pub part_of : Partition → List ℕ → List (ℕ × ℕ) → Part Core
part_of x m s = record { memory = m; tasks = runs_of x; heard = heard_of x; shown = s }

-- It is as at the start: all tasks are new, and nothing is unheard.
pub record New (x : Partition) : Type 0 where
  pub runs : runs_of x ≡ new_runs rv32i 0 (tasks_of x)
  pub heard : heard_of x ≡ []
