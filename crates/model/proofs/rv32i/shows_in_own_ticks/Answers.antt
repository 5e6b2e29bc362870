use Rattle.model.proofs.Own.{shows_in_own_ticks}
use Rattle.model.proofs.rv32i.shows_in_own_ticks.Goals as goal

pub returns : goal.returns
returns c = shows_in_own_ticks _
