use Rattle.std.proofs.Common.{◌≡◌, ℕ, min, true, drop}
use Rattle.plantext.specs.Numerals.{says}
use Rattle.plantext.proofs.numbers.digits.Given as goal

-- the total is a number, capped, with which what is left says what the whole does
abbrev pub invariant-loop-b : goal.invariant-loop-b
invariant-loop-b l = (u : ℕ) × (l.total ≡ min u 4294967296) × (says (drop l.b-index l.word) l.base u l.wanted ≡ says l.word l.base 0 true)
