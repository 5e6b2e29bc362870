-- The lemmas that each function's proof takes.
use Rattle.tasks.proofs.Changes.{coded, kept_none, begins, goes_on_lem, waits_on, stops_here}
use Rattle.tasks.proofs.Looking.{ready_true, ready_false, ready_is, ready_not_stopped, woken_other, woken_early, woken_now}
use Rattle.tasks.proofs.Looking.{checked_other, checked_early, checked_stops, checked_waits, stays_ready, stays_waiting, stays_stopped, stays_still, stays_some}
use Rattle.tasks.proofs.Parts.{began_run, began_plan, began_others, state_plan, state_others, plan_plan, plan_others, register_more, core_run, core_plan, core_others}
use Rattle.tasks.proofs.Unheard.{arrived, full, heard_byte, heard_one, heard_none, first_none}

pub ruleset readiness = (ready_true, ready_false)

pub ruleset staying = (stays_ready, stays_waiting, stays_stopped, stays_still, stays_some)

pub ruleset waking = (woken_other, woken_early, woken_now, begins, kept_none)

pub ruleset checking = (checked_other, checked_early, checked_stops, checked_waits, kept_none)

pub ruleset going = (goes_on_lem, ready_is)

pub ruleset waiting = (waits_on)

pub ruleset stopping = (stops_here, ready_is, ready_not_stopped)

pub ruleset beginning = (began_run, began_plan, began_others)

pub ruleset arriving = (arrived, full)

pub ruleset coding = (coded, state_plan, state_others)

pub ruleset planning = (plan_plan, plan_others)

pub ruleset hearing = (heard_byte, heard_one, heard_none, first_none)

pub ruleset registering = (register_more, core_run, core_plan, core_others)
