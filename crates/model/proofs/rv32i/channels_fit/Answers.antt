use Rattle.model.proofs.Own.{channels_fit}
use Rattle.model.proofs.rv32i.channels_fit.Goals as goal

pub returns : goal.returns
returns c = channels_fit _
