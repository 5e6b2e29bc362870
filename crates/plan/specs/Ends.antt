-- What the parts of the checker answer: where a part of the plan ends, and not what it says. Assumes nothing: these are
-- definitions.
use Rattle.std.specs.Prelude.{ℕ, ◌+◌, if◌then◌else◌, List, [], ◌∷◌, length, Ok, Err, Result, ◌==◌, nat_le}
use Rattle.codec.specs.Codec.{Outcome, got, refused, map_out}
use Rattle.plan.specs.declared.refusal.Refusal.{Refusal}
use Rattle.plan.specs.Refusals.{number_of, place_of}
use Rattle.plan.specs.Layout.{Part}

-- Where reading ended, without what was read.
abbrev pub seen : {A : Type 0} → Outcome A → Outcome (Unit {0})
seen o = map_out (λ a. tt) o

abbrev pub ended : Result ℕ Refusal → Outcome (Unit {0})
ended (Ok j) = got tt j
ended (Err e) = refused (number_of e) (place_of e)

-- The pages of all of these memories.
abbrev pub pages_of : List Part → ℕ
pages_of [] = 0
pages_of (p ∷ ps) = p.pages + pages_of ps

-- So many bytes behind place k, and no more.
abbrev pub fits : List ℕ → (k n : ℕ) → Outcome (Unit {0})
fits xs k n =
    if nat_le (k + n) (length xs) then (if k + n == length xs then got tt (k + n) else refused 1 (k + n)) else refused 1 (length xs)
