use Rattle.model.proofs.Separation.{tick_separates}
use Rattle.model.proofs.rv32i.tick_separates.Goals as goal

pub returns : goal.returns
returns c = tick_separates _
