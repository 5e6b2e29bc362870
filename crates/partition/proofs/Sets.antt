-- The lemmas that each function's proof takes.
use Rattle.partition.proofs.Kept.{table_kept}
use Rattle.partition.proofs.Lays.{arrived, tasks_kept, only_one, no_one, part_at_start, new_one, new_none, plan_one, plan_none}

pub ruleset arriving = (arrived, tasks_kept, table_kept)

pub ruleset beginning = (only_one, no_one, part_at_start, new_one, new_none, plan_one, plan_none)
