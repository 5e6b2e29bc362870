use Rattle.model.proofs.Separation.{separates}
use Rattle.model.proofs.rv32i.separates.Goals as goal

pub returns : goal.returns
returns c = separates _
