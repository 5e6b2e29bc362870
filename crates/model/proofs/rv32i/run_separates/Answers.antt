use Rattle.model.proofs.Separation.{run_separates}
use Rattle.model.proofs.rv32i.run_separates.Goals as goal

pub returns : goal.returns
returns c = run_separates _
