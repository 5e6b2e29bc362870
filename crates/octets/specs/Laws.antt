-- What is promised of reads and writes, for every width n. Each is a statement, whose proof is owed.
use Rattle.std.specs.Prelude.{◌≡◌, ℕ, ◌+◌, ◌^◌, ◌<◌, ◌≤◌, ◌⊎◌, List, length, slice_index}
use Rattle.octets.specs.Bytes.{put, number, bytes_of, at}

-- A number written into enough bytes within the row is read back.
abbrev pub ReadsBack : Type 0
ReadsBack = (n : ℕ) (xs : List ℕ) (k v : ℕ) → k + n ≤ length xs → v < 256 ^ n → at n (put xs k (bytes_of n v)) k ≡ v

-- What lies before or behind the bytes written is read as before.
abbrev pub KeepsOthers : Type 0
KeepsOthers =
    (m : ℕ) (xs ys : List ℕ) (k j : ℕ) → k + length ys ≤ length xs → (j + m ≤ k) ⊎ (k + length ys ≤ j) → at m (put xs k ys) j ≡ at m xs j

abbrev pub KeepsLength : Type 0
KeepsLength = (xs ys : List ℕ) (k : ℕ) → k + length ys ≤ length xs → length (put xs k ys) ≡ length xs

-- Bytes are the bytes of the number that they stand for.
abbrev pub Restores : Type 0
Restores = (bs : List ℕ) → ((k : ℕ) → slice_index bs k < 256) → bytes_of (length bs) (number bs) ≡ bs
