-- A tick's row of bytes from outside: how many, and each with the partition that it is for. Assumes nothing: these are
-- definitions.
use Rattle.std.specs.Prelude.{ℕ, ◌-◌, ◌^◌, Bool, if◌then◌else◌, List, length, nat_lt}
use Rattle.codec.specs.Codec.{Outcome, refused, Codec, number, chain, ◌▸◌, times, named}
use Rattle.model.specs.declared.plan.Arrival.{Arrival}
use Rattle.plan.specs.Taken.{was_read, things}

-- A byte of a row, up to hi. Refusal 5, at the end where it is missing and at itself where it is out of range.
abbrev pub row_byte : (hi : ℕ) → Codec ℕ
row_byte hi = number 5 5 1 0 hi

-- Where there are n partitions: whose, and the byte.
abbrev pub arrival : (n : ℕ) → Codec Arrival
arrival n = named (λ t. record { partition = t.0; byte = t.1 }) (λ a. (a.partition, a.byte)) (row_byte (n - 1) ▸ row_byte 255)

abbrev pub row : (n : ℕ) → Codec (List Arrival)
row n = named (λ t. t.1) (λ l. (length l, l)) (chain (row_byte 255) (λ m. times m (arrival n)))

-- A row for a tick after so many others. There are at most 2^40 ticks: one more is refused at its first byte.
abbrev pub read_row : (n time : ℕ) → List ℕ → ℕ → Outcome (List Arrival)
read_row n time xs k = if nat_lt time (2 ^ 40) then (row n).read xs k else refused 5 k

-- Whether a row begins at k.
unfoldable pub takes_row : (n : ℕ) → List ℕ → ℕ → Bool
takes_row n xs k = was_read ((row n).read xs k)

-- The row that begins at k; none where no row does.
unfoldable pub row_in : (n : ℕ) → List ℕ → ℕ → List Arrival
row_in n xs k = things ((row n).read xs k)
