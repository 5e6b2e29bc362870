-- The task of a record, as its lent table says it. Assumes nothing: these are definitions.
use Rattle.std.specs.Prelude.{◌≡◌}
use Rattle.cpu.specs.Core.{Core}
use Rattle.model.specs.declared.plan.Task.{Task}
use Rattle.model.specs.World.{Run}
use Rattle.tasks.specs.declared.record.Record.{Record}
use Rattle.tasks.specs.declared.record_mut.RecordMut.{RecordMut}
use Rattle.tasks.specs.Records.{run_at, task_at, Others}

-- The task under way, and its plan, of a record that is read.
abbrev pub run_in : Record → Run Core
run_in r = run_at r.table.now r.number

abbrev pub task_in : Record → Task
task_in r = task_at r.table.now r.number

-- The same of one that is written.
abbrev pub run_of : RecordMut → Run Core
run_of r = run_at r.table.now r.number

abbrev pub task_of : RecordMut → Task
task_of r = task_at r.table.now r.number

-- It is the same record of the same lent table, and the other tasks are as they were.
pub record Kept (a b : RecordMut) : Type 0 where
  pub table : b.table.ghost_name ≡ a.table.ghost_name
  pub number : b.number ≡ a.number
  pub others : Others a.number a.table.now b.table.now
