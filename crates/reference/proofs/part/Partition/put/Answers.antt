use Rattle.std.proofs.Common.{ap}
use Rattle.std.proofs.Math.Seq.{map-set_same}
use Rattle.std.proofs.lemmas.List.{map-set}
use Rattle.reference.specs.Parts.{tasks_of, runs_of, run_in, task_of}
use Rattle.reference.proofs.part.Partition.put.Goals as goal

pub returns-in-Some-clause-tasks : goal.returns-in-Some-clause-tasks
unfolding tasks_of
returns-in-Some-clause-tasks c = map-set_same task_of c.args.self.now.tasks.items c.args.i _ c.in-Some.task.now (ap task_of c.in-Some.ensures.value)

pub returns-in-Some-clause-runs : goal.returns-in-Some-clause-runs
unfolding runs_of
returns-in-Some-clause-runs c = map-set run_in c.args.self.now.tasks.items c.args.i _
