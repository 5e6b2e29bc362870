-- What is written for a plan that is handed over. Assumes nothing: these are definitions.
use Rattle.std.specs.Prelude.{◌≡◌, ℕ, ◌/◌, ◌<◌, ◌≤◌, List, ◌++◌, map, length, Ok, Err, Result}
use Rattle.std.specs.List.{All, flat_map}
use Rattle.octets.specs.Bytes.{put}
use Rattle.model.specs.declared.plan.Window.{Window}
use Rattle.model.specs.declared.plan.Channel.{Channel}
use Rattle.model.specs.declared.plan.Task.{Task}
use Rattle.plan.specs.declared.head.PartHead.{PartHead}
use Rattle.plan.specs.declared.draft.Draft.{Draft}
use Rattle.plan.specs.declared.draft.DraftPart.{DraftPart}
use Rattle.plan.specs.declared.draft.Unwritten.{Unwritten}
use Rattle.plan.specs.declared.draft.Unwritten.TheVariants.{Counts, Short}
use Rattle.plan.specs.Layout.{Image, header, window, channel, task, part_head, write_plan}
use Rattle.plan.specs.Given.{Given, Fits, image_from}

-- The bytes of each record: its range does not matter to them.
abbrev pub window_bytes : Window → List ℕ
window_bytes = (window 0 0).write

abbrev pub channel_bytes : Channel → List ℕ
channel_bytes = (channel 0).write

abbrev pub task_bytes : Task → List ℕ
task_bytes = task.write

abbrev pub head_bytes : PartHead → List ℕ
head_bytes = part_head.write

abbrev pub given : DraftPart → Given
given p = record { tasks = p.tasks.now; memory = p.memory.now }

-- What its part begins with, the part, and the memory.
abbrev pub head_of : DraftPart → PartHead
head_of p = record { pages = length p.memory.now / 4096; tasks = length p.tasks.now }

abbrev pub part_bytes : DraftPart → List ℕ
part_bytes p = head_bytes (head_of p) ++ flat_map task_bytes p.tasks.now

abbrev pub memory_bytes : DraftPart → List ℕ
memory_bytes p = p.memory.now

-- The plan with its memories that a draft is.
abbrev pub draft_image : Draft → Image
draft_image d = image_from d.system d.windows.now d.channels.now (map given d.parts.now)

-- Its bytes, piece by piece.
abbrev pub draft_bytes : Draft → List ℕ
draft_bytes d =
    header.write (record { system = d.system; partitions = length d.parts.now; windows = length d.windows.now; channels = length d.channels.now })
    ++ (flat_map window_bytes d.windows.now
    ++ (flat_map channel_bytes d.channels.now ++ (flat_map part_bytes d.parts.now ++ flat_map memory_bytes d.parts.now)))

-- No more of each than a plan may have, no more tasks in all, and what fits into each part.
pub record Counted (d : Draft) : Type 0 where
  pub windows : length d.windows.now ≤ 256
  pub channels : length d.channels.now ≤ 128
  pub parts : length d.parts.now ≤ 32
  pub few : length (flat_map (λ p. p.tasks.now) d.parts.now) ≤ 512
  pub each : All (λ p. Fits (given p)) d.parts.now

-- What writing a draft into a slice did: all of the plan's bytes at the front, and the rest as it was; or nothing.
abbrev pub Wrote : Draft → (entry exit : List ℕ) → Result ℕ Unwritten → Type 0
Wrote d entry exit (Ok n) = Counted d × (n ≡ length (write_plan (draft_image d))) × (exit ≡ put entry 0 (write_plan (draft_image d)))
Wrote d entry exit (Err Counts) = (Counted d → ⊥) × (exit ≡ entry)
Wrote d entry exit (Err (Short n)) = (n ≡ length (write_plan (draft_image d))) × (length entry < n) × (exit ≡ entry)
