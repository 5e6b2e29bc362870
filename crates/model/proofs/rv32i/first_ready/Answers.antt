use Rattle.model.proofs.Priority.{first_ready_lem}
use Rattle.model.proofs.rv32i.first_ready.Goals as goal

pub returns : goal.returns
returns c = first_ready_lem
