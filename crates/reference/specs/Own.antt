-- What a partition's own tick does, in the model's terms. Assumes nothing: these are definitions.
use Rattle.std.specs.Prelude.{◌≡◌, ℕ, List, [], ◌∷◌, ◌++◌, map, Some, None, Option}
use Rattle.cpu.specs.declared.call.Answer.{Answer}
use Rattle.cpu.specs.Core.{Core}
use Rattle.model.specs.declared.plan.Channel.{Channel}
use Rattle.model.specs.declared.plan.State.TheVariants.{Ready}
use Rattle.model.specs.World.{Part, Sent}
use Rattle.model.specs.Tick.{Step, Sight, changed, changing, goes_on, with_memory, seen}
use Rattle.std.specs.List.{slice_get}
use Rattle.reference.specs.declared.own.OwnTick.{OwnTick}
use Rattle.reference.specs.declared.part.Partition.{Partition}
use Rattle.reference.specs.declared.queue.Queue.{Queue}
use Rattle.reference.specs.Letters.{sents_of}
use Rattle.reference.specs.Parts.{part_of, run_of, runs_of}

unfoldable pub plan_of : Queue → Channel
plan_of q = q.plan

-- The channels' plan, and the messages in them.
unfoldable pub plans_of : List Queue → List Channel
plans_of cs = map plan_of cs

unfoldable pub channels_of : List Queue → List (List Sent)
channels_of cs = map sents_of cs

-- What partition q sees of them.
unfoldable pub seen_of : List Queue → ℕ → ℕ → Option Sight
seen_of cs q c = seen {C = Core} (plans_of cs) q (record { time = 0; parts = []; channels = channels_of cs }) c

-- What was shown in tick t, if anything was.
unfoldable pub said : ℕ → Option ℕ → List (ℕ × ℕ)
said t None = []
said t (Some b) = (t, b) ∷ []

-- A call with a channel was done: in a part with memory m the task goes on with answer r, the memory is m', and the channels
-- have become cs'.
pub record Exchanged (call : Part Core → ℕ → (Answer → Core) → Step Core) (m m' : List ℕ) (cs cs' : List Queue) (r : Answer) : Type 0 where
  pub part : (x : Part Core) (i : ℕ) (then : Answer → Core) → (call (with_memory x m) i then).part ≡ changing (with_memory x m') i (goes_on (then r))
  pub change : (x : Part Core) (i : ℕ) (then : Answer → Core) → changed (call (with_memory x m) i then).change (channels_of cs) ≡ channels_of cs'
  pub plans : plans_of cs' ≡ plans_of cs

-- A step was done in tick t, whatever was shown before: the part is x with memory m, the channels have become cs', and r
-- was shown.
pub record Did (step : List (ℕ × ℕ) → Step Core) (t : ℕ) (x : Partition) (m : List ℕ) (cs cs' : List Queue) (r : Option ℕ) : Type 0 where
  pub part : (s : List (ℕ × ℕ)) → part_of x m (s ++ said t r) ≡ (step s).part
  pub change : (s : List (ℕ × ℕ)) → channels_of cs' ≡ changed (step s).change (channels_of cs)
  pub plans : plans_of cs' ≡ plans_of cs

-- The same is lent still, for the same task.
pub record Lends (old new : OwnTick) : Type 0 where
  pub part : new.part.ghost_name ≡ old.part.ghost_name
  pub memory : new.memory.ghost_name ≡ old.memory.ghost_name
  pub channels : new.channels.ghost_name ≡ old.channels.ghost_name
  pub q : new.q ≡ old.q
  pub time : new.time ≡ old.time
  pub i : new.i ≡ old.i
  pub run : new.run ≡ old.run

-- The task that goes is the partition's, and it is ready.
pub record Goes (t : OwnTick) : Type 0 where
  pub found : slice_get (runs_of t.part.now) t.i ≡ Some (run_of t.run)
  pub ready : (run_of t.run).state ≡ Ready
