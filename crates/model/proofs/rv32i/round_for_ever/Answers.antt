use Rattle.model.proofs.Computed.{round_for_ever}
use Rattle.model.proofs.rv32i.round_for_ever.Goals as goal

pub returns : goal.returns
returns c = round_for_ever
