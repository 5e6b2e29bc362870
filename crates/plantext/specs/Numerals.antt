-- What the digits of a number say, and its range. Assumes nothing.
use Rattle.std.specs.Prelude.{ℕ, ◌+◌, ◌*◌, min, Bool, true, false, cond, ◌&&◌, ◌||◌, List, [], ◌∷◌, length, drop, Some, None, Option, Ok, Err, Result, ◌==◌, nat_le, nat_lt, slice_index}
use Rattle.std.specs.Option.{option_map}
use Rattle.std.specs.Char.{digit_value}
use Rattle.plantext.specs.declared.numbers.NumberError.{NumberError}
use Rattle.plantext.specs.declared.numbers.NumberError.TheVariants.{NoNumber, OutOfRange}

-- what the digits say that follow those that said `total`; `wanted`: a digit has to come next; 95 is `_`
unfoldable pub says : List ℕ → ℕ → ℕ → Bool → Option ℕ
says [] base total wanted = cond wanted None (Some total)
says (b ∷ bs) base total wanted =
    cond (b == 95) (cond wanted None (says bs base total true))
    (cond (nat_lt (digit_value b) base) (says bs base (total * base + digit_value b) false) None)

-- a word begins with 0x
abbrev pub hexed : List ℕ → Bool
hexed w = nat_le 2 (length w) && (slice_index w 0 == 48 && slice_index w 1 == 120)

-- the number that a word says, if it says one
abbrev pub numeral : List ℕ → Option ℕ
numeral w = cond (hexed w) (says (drop 2 w) 16 0 true) (says w 10 0 true)

-- the same, or 2^32 if it is more
abbrev pub capped : Option ℕ → Option ℕ
capped o = option_map (λ n. min n 4294967296) o

-- a number in a range
abbrev pub judged : Option ℕ → ℕ → ℕ → Result ℕ NumberError
judged None low high = Err NoNumber
judged (Some n) low high = cond (nat_lt n low || nat_lt high n) (Err OutOfRange) (Ok n)
