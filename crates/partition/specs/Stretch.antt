-- Many ticks of one partition in a row. Assumes nothing: these are definitions.
use Rattle.std.specs.Prelude.{◌≡◌, ℕ, zero, suc, ◌+◌, ◌<◌, List, length, Some, None, Option}
use Rattle.cpu.specs.Core.{Core}
use Rattle.cpu.specs.Rv32i.{rv32i}
use Rattle.model.specs.declared.plan.Task.{Task}
use Rattle.model.specs.World.{Run, Part}
use Rattle.model.specs.Tick.{Sight, part_tick, instruction, first_ready, looked, update, goes_on}

-- A partition with no end of any channel sees none.
abbrev pub none_seen : ℕ → Option Sight
none_seen c = None

-- The part of partition q after n own ticks, of which the first is tick t.
unfoldable pub part_ticks : ℕ → List Task → (t n : ℕ) → Part Core → Part Core
part_ticks q ks t zero x = x
part_ticks q ks t (suc n) x = part_ticks q ks (suc t) n (part_tick rv32i q t none_seen ks x).part

-- The same, where the tasks have been looked at for tick t already.
unfoldable pub looked_ticks : ℕ → List Task → (t n : ℕ) → Part Core → Part Core
looked_ticks q ks t zero x = x
looked_ticks q ks t (suc n) x = part_ticks q ks (suc t) n (instruction rv32i q t none_seen x (first_ready ks 0 x.tasks)).part

-- In n ticks from tick t on, the first of which has been looked at, task i is the one that goes, whatever its core is, and
-- looking at the tasks changes nothing.
pub record Busy (ks : List Task) (rs : List (Run Core)) (i t n : ℕ) : Type 0 where
  pub there : i < length rs
  pub first : (c : Core) → first_ready ks 0 (update rs i (goes_on c)) ≡ Some i
  pub still : (c : Core) (k : ℕ) → 0 < k → k < n → looked rv32i ks 0 (t + k) (update rs i (goes_on c)) ≡ update rs i (goes_on c)
