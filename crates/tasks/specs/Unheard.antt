-- The bytes from outside that a partition has not heard, in a frame. Assumes nothing: these are definitions.
use Rattle.std.specs.Prelude.{ℕ, ◌+◌, ◌%◌, min, List, map, slice_index}
use Rattle.std.specs.List.{range_with_len}
use Rattle.octets.specs.Bytes.{at}

-- At which of the 1024 places the first byte is, and how many bytes there are.
unfoldable pub head_in : List ℕ → ℕ
head_in r = at 4 r 0 % 1024

unfoldable pub count_in : List ℕ → ℕ
count_in r = min (at 4 r 4) 1024

-- Where in the frame the byte is that has k before it: behind the last place comes the first.
unfoldable pub place_of : ℕ → ℕ → ℕ
place_of head k = 1024 + (head + k) % 1024

-- The bytes in the order in which they came.
unfoldable pub heard_in : List ℕ → List ℕ
heard_in r = map (λ k. slice_index r (place_of (head_in r) k)) (range_with_len 0 (count_in r))
