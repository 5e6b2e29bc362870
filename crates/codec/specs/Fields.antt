-- What the code says of a number's reading, in the words of the kind `number`. Assumes nothing: these are definitions.
use Rattle.std.specs.Prelude.{ℕ, ◌+◌, List, length, Result, Ok, Err}
use Rattle.codec.specs.Codec.{Outcome, got, refused}
use Rattle.codec.specs.declared.Unfit.{Unfit}
use Rattle.codec.specs.declared.Unfit.TheVariants.{Missing, OutOfRange}

-- A number of n bytes at k: what was found there, which stands for a number, with the numbers of the two refusals.
abbrev pub outcome : {A : Type 0} → (A → ℕ) → (missing fault : ℕ) → List ℕ → (k n : ℕ) → Result A Unfit → Outcome ℕ
outcome value missing fault xs k n (Ok v) = got (value v) (k + n)
outcome value missing fault xs k n (Err Missing) = refused missing (length xs)
outcome value missing fault xs k n (Err OutOfRange) = refused fault k
