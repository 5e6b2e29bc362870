-- What there is: plans, tasks under way, partitions, channels. Assumes nothing: these are definitions.
use Rattle.std.specs.Prelude.{ℕ, ◌+◌, ◌-◌, ◌%◌, if◌then◌else◌, List, [], ◌∷◌, Some, None, Option, nat_lt, slice_index_or}
use Rattle.model.specs.declared.plan.Window.{Window}
use Rattle.model.specs.declared.plan.Channel.{Channel}
use Rattle.model.specs.declared.plan.Task.{Task}
use Rattle.model.specs.declared.plan.State.{State}

-- A plan: the ticks at the beginning of each window that are the system's, the windows of a round that begins anew for
-- ever, the channels, and the tasks of each partition.
pub record Plan : Type 0 where
  pub system : ℕ
  pub windows : List Window
  pub channels : List Channel
  pub tasks : List (List Task)

-- A task under way: its state, its core, when it last began, and how often it has been late since it last waited by itself.
pub record Run (C : Type 0) : Type 0 where
  pub state : State
  pub core : C
  pub began : ℕ
  pub late : ℕ

-- A partition under way: its memory, its tasks, the bytes from outside that it has not heard, and what it has shown, each
-- byte with the tick in which it was shown.
pub record Part (C : Type 0) : Type 0 where
  pub memory : List ℕ
  pub tasks : List (Run C)
  pub heard : List ℕ
  pub shown : List (ℕ × ℕ)

-- A message, and the tick in which it was sent.
pub record Sent : Type 0 where
  pub at : ℕ
  pub bytes : List ℕ

pub record World (C : Type 0) : Type 0 where
  pub time : ℕ
  pub parts : List (Part C)
  pub channels : List (List Sent)

abbrev pub no_part : {C : Type 0} → Part C
no_part = record { memory = []; tasks = []; heard = []; shown = [] }

abbrev pub no_task : Task
no_task = record { priority = 0; period = 1; deadline = 1; lates = 0 }

abbrev pub no_channel : Channel
no_channel = record { from = 0; to = 0; bytes = 0; places = 0 }

unfoldable pub part : {C : Type 0} → World C → ℕ → Part C
part w q = slice_index_or w.parts q no_part

unfoldable pub messages : {C : Type 0} → World C → ℕ → List Sent
messages w c = slice_index_or w.channels c []

unfoldable pub channel : List Channel → ℕ → Channel
channel chs c = slice_index_or chs c no_channel

-- The ticks of a round.
unfoldable pub round : List Window → ℕ
round [] = 0
round (w ∷ ws) = w.ticks + round ws

-- Whose tick it is, t ticks into the round, where the first s ticks of each window are the system's.
unfoldable pub turn_in : ℕ → List Window → ℕ → Option ℕ
turn_in s [] t = None
turn_in s (w ∷ ws) t = if nat_lt t w.ticks then (if nat_lt t s then None else Some w.partition) else turn_in s ws (t - w.ticks)

unfoldable pub turn : Plan → ℕ → Option ℕ
turn p t = turn_in p.system p.windows (t % round p.windows)
