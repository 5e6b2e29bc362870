use Rattle.model.proofs.Turns.{turns_by_window}
use Rattle.model.proofs.promises.turns_by_window_stands.Goals as goal

pub returns : goal.returns
returns c = turns_by_window
