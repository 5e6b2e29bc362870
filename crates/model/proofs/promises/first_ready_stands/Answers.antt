use Rattle.model.proofs.Priority.{first_ready_lem}
use Rattle.model.proofs.promises.first_ready_stands.Goals as goal

pub returns : goal.returns
returns g c = first_ready_lem
