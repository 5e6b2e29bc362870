use Rattle.model.proofs.Computed.{one_place}
use Rattle.model.proofs.rv32i.one_place_tells.Goals as goal

pub returns : goal.returns
returns c = one_place
