-- What reading on did. Assumes nothing: these are definitions.
use Rattle.std.specs.Prelude.{◌≡◌, ℕ, List, Result, Ok, Err}
use Rattle.codec.specs.Codec.{Outcome}
use Rattle.plan.specs.declared.reader.Reader.{Reader}
use Rattle.plan.specs.declared.refusal.Refusal.{Refusal}
use Rattle.plan.specs.Refusals.{told}

-- The number that was read.
abbrev pub as_number : {A : Type 0} → (A → ℕ) → Result A Refusal → Result ℕ Refusal
as_number value (Ok a) = Ok (value a)
as_number value (Err e) = Err e

-- What the reader answers is what comes of reading the same bytes where it was; and it is behind what was read.
pub record Reads {A : Type 0} (old new : Reader) (r : Result A Refusal) (read : List ℕ → ℕ → Outcome A) : Type 0 where
  pub value : told new.at r ≡ read old.bytes.now old.at
  pub bytes : new.bytes.now ≡ old.bytes.now
