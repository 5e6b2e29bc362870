use Rattle.model.proofs.Own.{channels_fit}
use Rattle.model.proofs.promises.channels_fit_stands.Goals as goal

pub returns : goal.returns
returns g c = λ M. channels_fit M
