-- Which plans, with their memories, are in bounds. Assumes nothing: these are definitions.
use Rattle.std.specs.Prelude.{◌≡◌, ℕ, ◌*◌, ◌<◌, ◌≤◌, List, length}
use Rattle.std.specs.List.{AllByRecursion}
use Rattle.codec.specs.Codec.{Bytes}
use Rattle.model.specs.declared.plan.Window.{Window}
use Rattle.model.specs.declared.plan.Channel.{Channel}
use Rattle.model.specs.declared.plan.Task.{Task}
use Rattle.plan.specs.Layout.{Image}

abbrev pub From : (lo hi v : ℕ) → Type 0
From lo hi v = (lo ≤ v) × (v ≤ hi)

-- Of a partition that there is, and longer than the system's ticks.
pub record WindowIn (s n : ℕ) (w : Window) : Type 0 where
  pub whose : w.partition < n
  pub longer : s < w.ticks
  pub ticks : From 17 1000000 w.ticks

pub record ChannelIn (n : ℕ) (c : Channel) : Type 0 where
  pub from : c.from < n
  pub to : c.to < n
  pub bytes : c.bytes ≤ 1024
  pub places : c.places ≤ 64

pub record TaskIn (t : Task) : Type 0 where
  pub priority : t.priority < 256
  pub period : From 1 100000000 t.period
  pub deadline : From 1 t.period t.deadline
  pub lates : t.lates < 256

pub record TasksIn (ts : List Task) : Type 0 where
  pub few : length ts ≤ 16
  pub each : AllByRecursion TaskIn ts

-- Whole pages of 4,096 bytes.
pub record MemoryIn (m : List ℕ) : Type 0 where
  pub pages : ℕ
  pub whole : length m ≡ 4096 * pages
  pub many : From 1 256 pages
  pub bytes : Bytes m

pub record InBounds (i : Image) : Type 0 where
  pub system : From 16 65535 i.plan.system
  pub partitions : From 1 32 (length i.plan.tasks)
  pub windows : From 1 256 (length i.plan.windows)
  pub channels : length i.plan.channels ≤ 128
  pub each_window : AllByRecursion (WindowIn i.plan.system (length i.plan.tasks)) i.plan.windows
  pub each_channel : AllByRecursion (ChannelIn (length i.plan.tasks)) i.plan.channels
  pub each_tasks : AllByRecursion TasksIn i.plan.tasks
  pub memories : length i.memories ≡ length i.plan.tasks
  pub each_memory : AllByRecursion MemoryIn i.memories
