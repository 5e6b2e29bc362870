use Rattle.model.proofs.Separation.{tick_separates}
use Rattle.model.proofs.promises.tick_separates_stands.Goals as goal

pub returns : goal.returns
returns g c = λ M. tick_separates M
