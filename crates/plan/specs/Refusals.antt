-- The number and the place of each refusal. Assumes nothing: these are definitions.
use Rattle.std.specs.Prelude.{ℕ, Ok, Err, Result}
use Rattle.codec.specs.Codec.{Outcome, got, refused}
use Rattle.plan.specs.declared.refusal.Refusal.{Refusal}
use Rattle.plan.specs.declared.refusal.Refusal.TheVariants.{Short, Long, Name, Number, Frames, Row, Shown}

abbrev pub number_of : Refusal → ℕ
number_of (Short n) = 1
number_of (Long k) = 1
number_of Name = 2
number_of (Number k) = 3
number_of (Frames n) = 4
number_of (Row k) = 5
number_of (Shown q) = 6

abbrev pub place_of : Refusal → ℕ
place_of (Short n) = n
place_of (Long k) = k
place_of Name = 0
place_of (Number k) = k
place_of (Frames n) = n
place_of (Row k) = k
place_of (Shown q) = q

-- What the code answers, as what comes of reading: a value with the place behind it, or a refusal's number and place.
abbrev pub told : {A : Type 0} → ℕ → Result A Refusal → Outcome A
told j (Ok a) = got a j
told j (Err e) = refused (number_of e) (place_of e)
