-- A loaded partition as it is handed over. Assumes nothing: these are definitions.
use Rattle.plan.specs.Given.{Given}
use Rattle.mkplan.specs.declared.memories.Loaded.{Loaded}

abbrev pub handed : Loaded → Given
handed l = record { tasks = l.tasks.items; memory = l.memory.bytes.items }
