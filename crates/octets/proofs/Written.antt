-- What is read after a write.
use Rattle.std.proofs.Common.{◌≡◌, ℕ, ◌+◌, ◌^◌, ◌<◌, ◌≤◌, ◌⊎◌, List, length, ap, ◌∙◌, arith}
use Rattle.octets.specs.Bytes.{put, number, bytes_of, at}
use Rattle.octets.proofs.Numbers.{number-bytes_of, length-bytes_of}
use Rattle.octets.proofs.Puts.{between_put, between-put_other}

-- The number that was written.
pub at-put : (n : ℕ) (xs : List ℕ) (k v : ℕ) → k + n ≤ length xs → v < 256 ^ n → at n (put xs k (bytes_of n v)) k ≡ v
unfolding at
at-put n xs k v h lt = ap number (between_put xs (bytes_of n v) k n (omega (arith, length-bytes_of n v)) (length-bytes_of n v)) ∙ number-bytes_of n v lt

-- Elsewhere, what was there.
pub at-put_other : (m : ℕ) (xs ys : List ℕ) (k j : ℕ) → k + length ys ≤ length xs → (j + m ≤ k) ⊎ (k + length ys ≤ j) → at m (put xs k ys) j ≡ at m xs j
unfolding at
at-put_other m xs ys k j h o = ap number (between-put_other xs ys k j m h o)
