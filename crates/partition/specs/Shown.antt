-- What is shown, as bytes in a slice. Assumes nothing: these are definitions.
use Rattle.std.specs.Prelude.{◌≡◌, ℕ, ◌+◌, ◌*◌, ◌≤◌, List, [], ◌∷◌, ◌++◌, length}
use Rattle.std.specs.List.{flat_map}
use Rattle.octets.specs.Bytes.{put, bytes_of}
use Rattle.partition.specs.declared.shown.Shown.{Shown}
use Rattle.partition.specs.Block.{count_of, part_of, tasks_of}
use Rattle.partition.specs.Stretch.{part_ticks}

-- A shown byte: its tick in eight bytes, and the byte.
unfoldable pub entry_bytes : ℕ × ℕ → List ℕ
entry_bytes e = bytes_of 8 e.0 ++ e.1 ∷ []

-- There is room for n entries behind what was shown.
abbrev pub HasRoom : Shown → ℕ → Type 0
HasRoom z n = z.«at» + 9 * n ≤ length z.bytes.now

-- In n own ticks from tick t on block b became b', and what was shown in them stands behind what z held, which became z'.
pub record Ran (b b' : List ℕ) (z z' : Shown) (t n : ℕ) : Type 0 where
  pub entries : List (ℕ × ℕ)
  pub part : (q : ℕ) (s : List (ℕ × ℕ)) → part_of b' (s ++ entries) ≡ part_ticks q (tasks_of b) t n (part_of b s)
  pub slice : z'.bytes.now ≡ put z.bytes.now z.«at» (flat_map entry_bytes entries)
  pub behind : z'.«at» ≡ z.«at» + 9 * length entries
  pub bytes : z'.bytes.ghost_name ≡ z.bytes.ghost_name
  pub few : length entries ≤ n
  pub plan : tasks_of b' ≡ tasks_of b
  pub count : count_of b' ≡ count_of b
