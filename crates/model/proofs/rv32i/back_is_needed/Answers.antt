use Rattle.model.proofs.Computed.{back_is_needed}
use Rattle.model.proofs.rv32i.back_is_needed.Goals as goal

pub returns : goal.returns
returns c = back_is_needed
