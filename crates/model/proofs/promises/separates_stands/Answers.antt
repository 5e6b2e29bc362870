use Rattle.model.proofs.Separation.{separates}
use Rattle.model.proofs.promises.separates_stands.Goals as goal

pub returns : goal.returns
returns g c = λ M. separates M
