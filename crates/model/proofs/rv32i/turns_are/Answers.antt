use Rattle.model.proofs.Computed.{turns_are}
use Rattle.model.proofs.rv32i.turns_are.Goals as goal

pub returns : goal.returns
returns c = turns_are
