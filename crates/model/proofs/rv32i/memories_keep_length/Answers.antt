use Rattle.model.proofs.Lengths.{memories_keep_length, rv32i_within}
use Rattle.model.proofs.rv32i.memories_keep_length.Goals as goal

pub returns : goal.returns
returns c = (rv32i_within, memories_keep_length _)
