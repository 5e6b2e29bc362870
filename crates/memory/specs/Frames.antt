-- The block of a partition: a list of bytes in frames of 4096. The first eight frames are for control, and the page
-- tables are the first two of them; the others are the partition's memory. Assumes nothing: these are definitions.
use Rattle.std.specs.Prelude.{◌≡◌, ℕ, ◌+◌, ◌-◌, ◌*◌, ◌/◌, ◌<◌, ◌≤◌, cond, List, length, take, drop, ◌==◌, ◌≢◌, nat_lt}
use Rattle.std.specs.List.{between}
use Rattle.octets.specs.Bytes.{at}

-- The control frames of a block, and behind them the memory of the partition, whose addresses count from 0.
unfoldable pub control_of : List ℕ → List ℕ
control_of b = take 32768 b

unfoldable pub memory_of : List ℕ → List ℕ
memory_of b = drop 32768 b

-- Frame n of a block.
unfoldable pub frame : ℕ → List ℕ → List ℕ
frame n b = between (4096 * n) (4096 * n + 4096) b

-- How many pages of memory a block has.
unfoldable pub pages_of : List ℕ → ℕ
pages_of b = (length b - 32768) / 4096

-- Entry r of the root table: the leaf table is in frame 1 and serves the first addresses; the others have none.
unfoldable pub root_entry : ℕ → ℕ
root_entry r = cond (r == 0) 1 0

-- Entry i of the leaf table, with n pages of memory: page i is in frame 8 + i; what is no page has none.
unfoldable pub leaf_entry : ℕ → ℕ → ℕ
leaf_entry n i = cond (nat_lt i n) (8 + i) 0

-- The block is whole frames, no more pages of memory than a leaf table has entries, and its tables, the root in frame 0
-- and the leaf in frame 1, map each page of memory to its frame and nothing else.
pub record Mapped (b : List ℕ) : Type 0 where
  pub whole : length b ≡ 32768 + 4096 * pages_of b
  pub few : pages_of b ≤ 1024
  pub root : (r : ℕ) → r < 1024 → at 4 b (4 * r) ≡ root_entry r
  pub leaf : (i : ℕ) → i < 1024 → at 4 b (4096 + 4 * i) ≡ leaf_entry (pages_of b) i

-- Of a block's control frames and its memory, none is changed but frame n.
pub record OnlyFrame (n : ℕ) (a b : List ℕ) : Type 0 where
  pub memory : memory_of b ≡ memory_of a
  pub others : (m : ℕ) → m < 8 → (m ≢ n) → frame m b ≡ frame m a
