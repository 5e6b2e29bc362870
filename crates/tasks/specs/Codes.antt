-- What a record says of its task's state. Assumes nothing: these are definitions.
use Rattle.std.specs.Prelude.{ℕ, suc}
use Rattle.model.specs.declared.plan.State.{State}
use Rattle.model.specs.declared.plan.State.TheVariants as state
use Rattle.tasks.specs.declared.code.Code.{Code}
use Rattle.tasks.specs.declared.code.Code.TheVariants.{Ready, Waiting, Stopped, StoppedLate}

-- The number that stands in the record.
abbrev pub number_of : Code → ℕ
number_of Ready = 0
number_of Waiting = 1
number_of Stopped = 2
number_of StoppedLate = 3

-- The state, and how often the task has been late where the record says n.
abbrev pub state_of : Code → State
state_of Ready = state.Ready
state_of Waiting = state.Waiting
state_of Stopped = state.Stopped
state_of StoppedLate = state.Stopped

abbrev pub late_of : Code → ℕ → ℕ
late_of Ready n = n
late_of Waiting n = n
late_of Stopped n = n
late_of StoppedLate n = suc n
