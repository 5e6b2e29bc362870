-- A plan as it is handed over: for each partition its tasks and its memory. Assumes nothing: these are definitions.
use Rattle.std.specs.Prelude.{◌≡◌, ℕ, ◌/◌, ◌%◌, ◌≤◌, List, map, length}
use Rattle.model.specs.declared.plan.Window.{Window}
use Rattle.model.specs.declared.plan.Channel.{Channel}
use Rattle.model.specs.declared.plan.Task.{Task}
use Rattle.plan.specs.Layout.{Image}

pub record Given : Type 0 where
  pub tasks : List Task
  pub memory : List ℕ

-- The numbers at the head of its part can say it.
pub record Fits (p : Given) : Type 0 where
  pub tasks : length p.tasks ≤ 255
  pub whole : length p.memory % 4096 ≡ 0
  pub pages : length p.memory / 4096 ≤ 65535

-- The plan with its memories.
abbrev pub image_from : ℕ → List Window → List Channel → List Given → Image
image_from s ws cs ps =
    record { plan = record { system = s; windows = ws; channels = cs; tasks = map (λ p. p.tasks) ps }; memories = map (λ p. p.memory) ps }
