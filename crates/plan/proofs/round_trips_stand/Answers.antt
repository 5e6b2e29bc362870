use Rattle.plan.proofs.Exact.{reads_all, writes_back}
use Rattle.plan.proofs.Drafted.{drafts_all}
use Rattle.plan.proofs.round_trips_stand.Goals as goal

pub returns : goal.returns
returns c = record { reads = reads_all; writes = writes_back; drafts = drafts_all }
