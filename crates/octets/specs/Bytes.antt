-- Bytes in a row, and the numbers that they stand for, low byte first.
-- Assumes nothing: these are definitions.
use Rattle.std.specs.Prelude.{ℕ, zero, suc, ◌+◌, ◌*◌, ◌/◌, ◌%◌, List, [], ◌∷◌, ◌++◌, length, take, drop}
use Rattle.std.specs.List.{between}

-- The row with ys written over it from place k on.
unfoldable pub put : List ℕ → ℕ → List ℕ → List ℕ
put xs k ys = take k xs ++ (ys ++ drop (k + length ys) xs)

-- The number that the bytes stand for.
unfoldable pub number : List ℕ → ℕ
number [] = 0
number (b ∷ bs) = b + 256 * number bs

-- The n low bytes of a number.
unfoldable pub bytes_of : ℕ → ℕ → List ℕ
bytes_of zero v = []
bytes_of (suc n) v = v % 256 ∷ bytes_of n (v / 256)

-- The number in the n bytes from place k on.
unfoldable pub at : ℕ → List ℕ → ℕ → ℕ
at n xs k = number (between k (k + n) xs)
