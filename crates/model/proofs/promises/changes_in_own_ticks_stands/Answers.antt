use Rattle.model.proofs.Own.{changes_in_own_ticks}
use Rattle.model.proofs.promises.changes_in_own_ticks_stands.Goals as goal

pub returns : goal.returns
returns g c = λ M. changes_in_own_ticks M
