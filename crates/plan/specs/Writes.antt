-- What a write did. Assumes nothing: these are definitions.
use Rattle.std.specs.Prelude.{◌≡◌, ℕ, ◌+◌, ◌≤◌, List, length}
use Rattle.octets.specs.Bytes.{put}

-- These bytes stand from place k on, and j is behind them.
pub record Puts (old new : List ℕ) (k j : ℕ) (ys : List ℕ) : Type 0 where
  pub room : k + length ys ≤ length old
  pub after : new ≡ put old k ys
  pub behind : j ≡ k + length ys
