-- The core that the registers hold. Assumes nothing: these are definitions.
use Rattle.cpu.specs.declared.registers.Registers.{Registers}
use Rattle.cpu.specs.Core.{Core}

abbrev pub core_of : Registers → Core
core_of r = record { pc = r.pc; x = r.x }
