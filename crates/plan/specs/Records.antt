-- What a record of the format is. Assumes nothing: these are definitions.
use Rattle.std.specs.Prelude.{◌≡◌, ℕ, ◌+◌, ◌≤◌, List, length}
use Rattle.codec.specs.Codec.{Codec, got}

-- Each thing of the kind that is read has so many bytes, and they are there.
pub record HasSize {A : Type 0} (c : Codec A) (n : ℕ) : Type 0 where
  pub ends : (xs : List ℕ) (k j : ℕ) (a : A) → c.read xs k ≡ got a j → j ≡ k + n
  pub there : (xs : List ℕ) (k j : ℕ) (a : A) → c.read xs k ≡ got a j → k + n ≤ length xs
