-- Where a partition's memory begins. Assumes nothing: these are definitions.
use Rattle.std.specs.Prelude.{ℕ, zero, suc, ◌+◌, ◌*◌, List, [], ◌∷◌}

-- Behind the memories of those before it.
unfoldable pub place : List ℕ → ℕ → ℕ
place [] q = 0
place (pages ∷ rest) zero = 0
place (pages ∷ rest) (suc q) = pages * 4096 + place rest q
