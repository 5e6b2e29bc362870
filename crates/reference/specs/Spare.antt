-- How often a task may have been late. Assumes nothing: these are definitions.
use Rattle.std.specs.Prelude.{ℕ}
use Rattle.model.specs.declared.plan.State.{State}
use Rattle.model.specs.declared.plan.State.TheVariants.{Ready, Waiting, Stopped}

-- A stopped task may have been late once more than it may.
abbrev pub spare : State → ℕ
spare Ready = 0
spare Waiting = 0
spare Stopped = 1
