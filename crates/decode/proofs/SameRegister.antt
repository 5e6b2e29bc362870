-- A register is its number.
use Rattle.std.proofs.Common.{◌≡◌, ◌<◌}
use mathlib.Core.HLevel.{is_prop→PathP}
use native.Mathlib.Bridge.{le_prop}
use Rattle.decode.specs.declared.reg.Reg.{Reg}

pub same_register : (r s : Reg) → r.number ≡ s.number → r ≡ s
same_register r s e = λ j. record { number = e j; below = is_prop→PathP (λ i. e i < 32) (λ i. le_prop) r.below s.below j }
