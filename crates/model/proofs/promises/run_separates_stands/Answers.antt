use Rattle.model.proofs.Separation.{run_separates}
use Rattle.model.proofs.promises.run_separates_stands.Goals as goal

pub returns : goal.returns
returns g c = λ M. run_separates M
