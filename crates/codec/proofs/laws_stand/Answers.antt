use Rattle.codec.proofs.Laws.{number_law, raw_law}
use Rattle.codec.proofs.laws_stand.Goals as goal

pub returns : goal.returns
returns c = record { number = number_law; raw = raw_law }
