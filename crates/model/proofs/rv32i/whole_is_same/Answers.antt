use Rattle.model.proofs.Same.{whole_is_same}
use Rattle.model.proofs.rv32i.whole_is_same.Goals as goal

pub returns : goal.returns
returns c = whole_is_same _
