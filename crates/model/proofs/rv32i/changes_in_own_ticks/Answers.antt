use Rattle.model.proofs.Own.{changes_in_own_ticks}
use Rattle.model.proofs.rv32i.changes_in_own_ticks.Goals as goal

pub returns : goal.returns
returns c = changes_in_own_ticks _
