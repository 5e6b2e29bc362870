-- What ties a kind's reading to its writing. Assumes nothing: these are definitions.
use Rattle.std.specs.Prelude.{◌≡◌, ℕ, ◌+◌, ◌^◌, ◌<◌, ◌≤◌, List, length, take, drop}
use Rattle.codec.specs.Codec.{got, Codec, Bytes, number, raw}

-- The bytes ys stand in xs from place k on.
abbrev pub Stands : List ℕ → List ℕ → ℕ → Type 0
Stands ys xs k = take (length ys) (drop k xs) ≡ ys

-- What is read at k is proper, stands there, and ends where reading ended.
pub record Read {A : Type 0} (c : Codec A) (xs : List ℕ) (k j : ℕ) (a : A) : Type 0 where
  pub proper : c.Proper a
  pub stands : Stands (c.write a) xs k
  pub ends : j ≡ k + length (c.write a)

-- Both ways: what is proper, and stands at k, is read there; and what is read at k is proper, and stands there.
pub record Lawful {A : Type 0} (c : Codec A) : Type 0 where
  pub there :
      (xs : List ℕ) (k : ℕ) (a : A) → k ≤ length xs → c.Proper a → Stands (c.write a) xs k → c.read xs k ≡ got a (k + length (c.write a))
  pub back : (xs : List ℕ) (k j : ℕ) (a : A) → k ≤ length xs → Bytes xs → c.read xs k ≡ got a j → Read c xs k j a

-- A number whose range its bytes can hold.
abbrev pub NumberLaw : Type 0
NumberLaw = (missing fault n lo hi : ℕ) → hi < 256 ^ n → Lawful (number missing fault n lo hi)

abbrev pub RawLaw : Type 0
RawLaw = (missing n : ℕ) → Lawful (raw missing n)
