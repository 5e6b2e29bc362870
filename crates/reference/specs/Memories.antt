-- The partitions' memories in one row of bytes, one after the other. Assumes nothing: these are definitions.
use Rattle.std.specs.Prelude.{ℕ, ◌*◌, List, [], ◌∷◌, take, drop}

-- The memories of partitions with so many pages of 4,096 bytes each, as far as there are bytes.
unfoldable pub memories_in : List ℕ → List ℕ → List (List ℕ)
memories_in [] bytes = []
memories_in (pages ∷ rest) bytes = take (pages * 4096) bytes ∷ memories_in rest (drop (pages * 4096) bytes)
