use Rattle.model.proofs.Lengths.{memories_keep_length}
use Rattle.model.proofs.promises.memories_keep_length_stands.Goals as goal

pub returns : goal.returns
returns g c = λ M. memories_keep_length M
