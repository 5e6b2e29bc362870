-- A plan's bytes, front to back, low byte first. Assumes nothing: these are definitions.
use Rattle.std.specs.Prelude.{ℕ, ◌+◌, ◌-◌, ◌*◌, ◌/◌, List, [], ◌∷◌, map, length}
use Rattle.codec.specs.Codec.{Outcome, Codec, number, raw, chain, ◌▸◌, each, times, named, whole}
use Rattle.model.specs.World.{Plan}
use Rattle.model.specs.declared.plan.Window.{Window}
use Rattle.model.specs.declared.plan.Channel.{Channel}
use Rattle.model.specs.declared.plan.Task.{Task}
use Rattle.plan.specs.declared.head.Header.{Header}
use Rattle.plan.specs.declared.head.PartHead.{PartHead}

-- A plan with the memories of its partitions, at the start.
pub record Image : Type 0 where
  pub plan : Plan
  pub memories : List (List ℕ)

-- A number of n bytes, from lo to hi. Refusal 1 where its bytes are missing, 3 where it is out of range.
abbrev pub field : (n lo hi : ℕ) → Codec ℕ
field n lo hi = number 1 3 n lo hi

-- "TIME". Refusal 2 where another name stands there.
abbrev pub name : Codec ℕ
name = number 1 2 4 0x454d4954 0x454d4954

-- The system's ticks, the partitions, the windows, the channels.
abbrev pub header : Codec Header
header =
    named (λ t. record { system = t.1.0; partitions = t.1.1.0; windows = t.1.1.1.0; channels = t.1.1.1.1 })
    (λ h. (0x454d4954, (h.system, (h.partitions, (h.windows, h.channels)))))
    (name ▸ field 2 16 65535 ▸ field 1 1 32 ▸ field 2 1 256 ▸ field 1 0 128)

-- Where the system has s ticks of each window, and there are n partitions: whose, and its ticks, more than s, which is 16 at
-- least.
abbrev pub window : (s n : ℕ) → Codec Window
window s n = named (λ t. record { partition = t.0; ticks = t.1 }) (λ w. (w.partition, w.ticks)) (field 1 0 (n - 1) ▸ field 4 (s + 1) 1000000)

-- From, to, bytes, places.
abbrev pub channel : (n : ℕ) → Codec Channel
channel n =
    named (λ t. record { from = t.0; to = t.1.0; bytes = t.1.1.0; places = t.1.1.1 }) (λ c. (c.from, (c.to, (c.bytes, c.places))))
    (field 1 0 (n - 1) ▸ field 1 0 (n - 1) ▸ field 2 0 1024 ▸ field 1 0 64)

-- Priority, period, deadline, which is at most the period, lates.
abbrev pub task : Codec Task
task =
    named (λ t. record { priority = t.0; period = t.1.0; deadline = t.1.1.0; lates = t.1.1.1 })
    (λ t. (t.priority, (t.period, (t.deadline, t.lates))))
    (field 1 0 255 ▸ chain (field 4 1 100000000) (λ period. field 4 1 period ▸ field 1 0 255))

-- The pages of its memory, and how many tasks.
abbrev pub part_head : Codec PartHead
part_head = named (λ t. record { pages = t.0; tasks = t.1 }) (λ h. (h.pages, h.tasks)) (field 2 1 256 ▸ field 1 0 16)

-- A partition's part of the plan.
pub record Part : Type 0 where
  pub pages : ℕ
  pub tasks : List Task

abbrev pub partition : Codec Part
partition =
    named (λ t. record { pages = t.0.pages; tasks = t.1 }) (λ p. (record { pages = p.pages; tasks = length p.tasks }, p.tasks))
    (chain part_head (λ h. times h.tasks task))

-- A partition's memory: pages of 4,096 bytes.
abbrev pub memory : Part → Codec (List ℕ)
memory p = raw 1 (4096 * p.pages)

abbrev pub Body : Type 0
Body = List Window × (List Channel × (List Part × List (List ℕ)))

abbrev pub body : Header → Codec Body
body h =
    times h.windows (window h.system h.partitions)
    ▸ times h.channels (channel h.partitions)
    ▸ chain (times h.partitions partition) (each memory)

-- Each memory's pages beside each partition's tasks.
abbrev pub beside : List (List ℕ) → List (List Task) → List Part
beside [] ts = []
beside (m ∷ ms) [] = []
beside (m ∷ ms) (t ∷ ts) = record { pages = length m / 4096; tasks = t } ∷ beside ms ts

abbrev pub to_image : Header × Body → Image
to_image t =
    record {
      plan = record { system = t.0.system; windows = t.1.0; channels = t.1.1.0; tasks = map (λ p. p.tasks) t.1.1.1.0 };
      memories = t.1.1.1.1;
    }

abbrev pub from_image : Image → Header × Body
from_image i = (
  record { system = i.plan.system; partitions = length i.plan.tasks; windows = length i.plan.windows; channels = length i.plan.channels },
  (i.plan.windows, (i.plan.channels, (beside i.memories i.plan.tasks, i.memories))),
)

unfoldable pub image : Codec Image
image = named to_image from_image (chain header body)

-- What comes of reading all of the bytes as a plan. Refusal 1 where they go on behind it.
unfoldable pub read_plan : List ℕ → Outcome Image
read_plan = whole 1 image

unfoldable pub write_plan : Image → List ℕ
write_plan i = image.write i
