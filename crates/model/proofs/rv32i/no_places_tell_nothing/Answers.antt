use Rattle.model.proofs.Computed.{no_places}
use Rattle.model.proofs.rv32i.no_places_tell_nothing.Goals as goal

pub returns : goal.returns
returns c = no_places
