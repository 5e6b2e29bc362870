-- What one instruction, and a burst of instructions of one task, come to. Assumes nothing: these are definitions.
use Rattle.std.specs.Prelude.{◌≡◌, ℕ, ◌+◌, ◌*◌, ◌≤◌, List, [], ◌∷◌, ◌++◌, length}
use Rattle.std.specs.List.{flat_map}
use Rattle.octets.specs.Bytes.{put}
use Rattle.cpu.specs.Core.{Core}
use Rattle.cpu.specs.Rv32i.{act}
use Rattle.model.specs.declared.plan.Task.{Task}
use Rattle.model.specs.declared.plan.State.{State}
use Rattle.model.specs.declared.plan.State.TheVariants.{Ready, Waiting, Stopped}
use Rattle.model.specs.World.{Run}
use Rattle.model.specs.Tick.{acted, update, goes_on, waits, stops}
use Rattle.memory.specs.Frames.{memory_of}
use Rattle.partition.specs.declared.came.Came.{Came}
use Rattle.partition.specs.declared.came.Came.TheVariants.{Goes, Shows, Waits, Stops}
use Rattle.partition.specs.declared.shown.Shown.{Shown}
use Rattle.partition.specs.declared.came.Burst.{Burst}
use Rattle.partition.specs.Block.{over, TableKept}
use Rattle.partition.specs.Stretch.{none_seen, looked_ticks, Busy}
use Rattle.partition.specs.Shown.{entry_bytes}

-- What was shown in tick t.
abbrev pub said_by : ℕ → Came → List (ℕ × ℕ)
said_by t Goes = []
said_by t (Shows b) = (t, b) ∷ []
said_by t Waits = []
said_by t Stops = []

-- What became of the task, whose core is now c.
abbrev pub turned_by : Came → Core → Run Core → Run Core
turned_by Goes c r = goes_on c r
turned_by (Shows b) c r = goes_on c r
turned_by Waits c r = waits c r
turned_by Stops c r = stops r

-- A task that stops has the core that it had.
abbrev pub Still : Came → Core → Core → Type 0
Still Goes c c' = Unit {0}
Still (Shows b) c c' = Unit {0}
Still Waits c c' = Unit {0}
Still Stops c c' = c' ≡ c

-- An instruction of a task with core c was done in tick t: it came to r, the block b became b', and the core c'.
pub record Did (b b' : List ℕ) (c c' : Core) (t : ℕ) (r : Came) : Type 0 where
  pub part :
      (q i : ℕ) (rs : List (Run Core)) (s : List (ℕ × ℕ)) →
      (acted q t none_seen (over b rs s) i (act c (memory_of b))).part ≡ over b' (update rs i (turned_by r c')) (s ++ said_by t r)
  pub still : Still r c c'
  pub kept : TableKept b b'

-- What became of the task in a burst that ended so.
abbrev pub ended_by : State → Core → Run Core → Run Core
ended_by Ready c r = goes_on c r
ended_by Waiting c r = waits c r
ended_by Stopped c r = stops (goes_on c r)

-- A task with core c did instructions from tick t on, in at most n ticks, as r says: the block b became b', the core c', and
-- what was shown stands behind what z held, which became z'.
pub record Bursted (b b' : List ℕ) (c c' : Core) (z z' : Shown) (t n : ℕ) (r : Burst) : Type 0 where
  pub entries : List (ℕ × ℕ)
  pub part :
      (q i : ℕ) (ks : List Task) (rs : List (Run Core)) (s : List (ℕ × ℕ)) → Busy ks rs i t n →
      looked_ticks q ks t r.ticks (over b (update rs i (goes_on c)) s) ≡ over b' (update rs i (ended_by r.«end» c')) (s ++ entries)
  pub slice : z'.bytes.now ≡ put z.bytes.now z.«at» (flat_map entry_bytes entries)
  pub behind : z'.«at» ≡ z.«at» + 9 * length entries
  pub bytes : z'.bytes.ghost_name ≡ z.bytes.ghost_name
  pub few : length entries ≤ r.ticks
  pub within : r.ticks ≤ n
  pub kept : TableKept b b'
