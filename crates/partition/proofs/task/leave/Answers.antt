use Rattle.std.proofs.Common.{ap}
use Rattle.model.specs.Tick.{is_ready, goes_on}
use Rattle.partition.proofs.task.leave.Goals as goal

pub stop-requires : goal.stop-requires
unfolding goes_on is_ready
stop-requires c = record { ready = ap (λ r. is_ready r.state) c.go_on-in-Stopped.ensures.run }
