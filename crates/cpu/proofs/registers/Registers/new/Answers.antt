use Rattle.std.proofs.Common.{rules}
use Rattle.cpu.specs.Core.{fresh}
use Rattle.cpu.proofs.registers.Registers.new.Goals as goal

pub returns : goal.returns
unfolding fresh
returns c = search rules
