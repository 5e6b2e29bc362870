-- What a checked plan's view says. Assumes nothing: these are definitions.
use Rattle.std.specs.Prelude.{ℕ, List, [], slice_index_or}
use Rattle.model.specs.World.{Plan}
use Rattle.model.specs.declared.plan.Task.{Task}
use Rattle.plan.specs.declared.view.View.{View}
use Rattle.plan.specs.Taken.{image_in}

abbrev pub bytes_of : View → List ℕ
bytes_of v = v.bytes.now

abbrev pub plan_of : View → Plan
plan_of v = (image_in (bytes_of v)).plan

-- The memories at the start, in the order of the partitions.
abbrev pub memories_of : View → List (List ℕ)
memories_of v = (image_in (bytes_of v)).memories

abbrev pub tasks_of : View → ℕ → List Task
tasks_of v q = slice_index_or (plan_of v).tasks q []

abbrev pub memory_of : View → ℕ → List ℕ
memory_of v q = slice_index_or (memories_of v) q []
