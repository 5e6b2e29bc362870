-- What the whole computer of the program stands for. Assumes nothing: these are definitions.
use Rattle.std.specs.Prelude.{ℕ, ◌+◌, ◌^◌, ◌<◌, List}
use Rattle.cpu.specs.Core.{Core}
use Rattle.model.specs.World.{Plan}
use Rattle.model.specs.World.{World as Computer}
use Rattle.reference.specs.declared.shown.Refused.{Refused}
use Rattle.reference.specs.declared.shown.Refused.TheVariants.{Over, Places}
use Rattle.reference.specs.declared.world.World.{World}
use Rattle.reference.specs.Memories.{memories_in}
use Rattle.reference.specs.View.{plan_in, world_of}

-- Its plan.
abbrev pub plan_of : World → Plan
plan_of w = plan_in w.system w.windows.now w.parts.now w.channels.now

-- The computer, whose partitions have shown these bytes.
abbrev pub view_of : World → (ℕ → List (ℕ × ℕ)) → Computer Core
view_of w s = world_of w.time w.parts.now (memories_in w.pages.now w.memory.now) w.channels.now s

-- Why a run of so many ticks, with so many places for what is shown, is refused at a time.
abbrev pub Reason : Refused → (many places time : ℕ) → Type 0
Reason Over many places time = 2 ^ 40 < time + many
Reason Places many places time = places < many
