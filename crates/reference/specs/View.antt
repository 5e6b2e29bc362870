-- What the program's state stands for: a plan, and a world of the model. Assumes nothing: these are definitions.
use Rattle.std.specs.Prelude.{ℕ, suc, cond, List, [], ◌∷◌, ◌++◌, map, Some, None, Option, ◌==◌, slice_index_or}
use Rattle.cpu.specs.Core.{Core}
use Rattle.model.specs.declared.plan.Window.{Window}
use Rattle.model.specs.World.{Plan, Part, World}
use Rattle.reference.specs.declared.part.Partition.{Partition}
use Rattle.reference.specs.declared.queue.Queue.{Queue}
use Rattle.reference.specs.declared.shown.Shown.{Shown}
use Rattle.reference.specs.Parts.{tasks_of, part_of}
use Rattle.reference.specs.Own.{plans_of, channels_of}

-- The plan: the windows, and what the channels and the tasks under way say of themselves.
unfoldable pub plan_in : ℕ → List Window → List Partition → List Queue → Plan
plan_in system ws xs cs = record { system = system; windows = ws; channels = plans_of cs; tasks = map tasks_of xs }

-- The parts, numbered from i on, with these memories, which have shown these bytes.
unfoldable pub parts_of : List Partition → (ℕ → List ℕ) → (ℕ → List (ℕ × ℕ)) → ℕ → List (Part Core)
parts_of [] m s i = []
parts_of (x ∷ xs) m s i = part_of x (m i) (s i) ∷ parts_of xs m s (suc i)

unfoldable pub world_of : ℕ → List Partition → List (List ℕ) → List Queue → (ℕ → List (ℕ × ℕ)) → World Core
world_of t xs ms cs s = record { time = t; parts = parts_of xs (λ q. slice_index_or ms q []) s 0; channels = channels_of cs }

-- What partition j has shown when q showed these bytes.
unfoldable pub showing : (ℕ → List (ℕ × ℕ)) → ℕ → List (ℕ × ℕ) → ℕ → List (ℕ × ℕ)
showing s q bytes j = s j ++ cond (j == q) bytes []

-- The same, after what a tick showed.
unfoldable pub after : (ℕ → List (ℕ × ℕ)) → Option Shown → ℕ → List (ℕ × ℕ)
after s None j = s j
after s (Some b) j = showing s b.partition ((b.tick, b.byte) ∷ []) j

-- And after what many ticks showed, one after the other.
unfoldable pub after_all : (ℕ → List (ℕ × ℕ)) → List (Option Shown) → ℕ → List (ℕ × ℕ)
after_all s [] = s
after_all s (b ∷ bs) = after_all (after s b) bs
