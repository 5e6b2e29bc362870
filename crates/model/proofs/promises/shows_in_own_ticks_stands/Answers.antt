use Rattle.model.proofs.Own.{shows_in_own_ticks}
use Rattle.model.proofs.promises.shows_in_own_ticks_stands.Goals as goal

pub returns : goal.returns
returns g c = λ M. shows_in_own_ticks M
