use Rattle.model.proofs.Same.{whole_is_same}
use Rattle.model.proofs.promises.whole_is_same_stands.Goals as goal

pub returns : goal.returns
returns g c = λ M. whole_is_same M
