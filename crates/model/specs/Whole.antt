-- The tick once more, written over the whole world: each step takes the world and gives the world back. It is the same tick
-- as that of Tick, which is promised in Promise; whoever compares the model with a description of such a computer reads
-- this. How a task is looked at and which goes first are those of Tick. Assumes nothing: these are definitions.
use Rattle.std.specs.Prelude.{ℕ, ◌+◌, ◌-◌, ◌%◌, Bool, cond, ◌&&◌, ◌||◌, List, [], ◌∷◌, ◌++◌, length, drop, Some, None, Option, ◌==◌, nat_le, nat_lt, slice_index_or, slice_set}
use Rattle.std.specs.List.{between}
use Rattle.octets.specs.Bytes.{put}
use Rattle.cpu.specs.Act.{Act, quiet, store, call, wrong, Machine}
use Rattle.cpu.specs.declared.call.Call.{Call}
use Rattle.cpu.specs.declared.call.Call.TheVariants.{Show, Wait, Clock, Send, Take, Hear, Unknown}
use Rattle.cpu.specs.declared.call.Answer.{Answer}
use Rattle.cpu.specs.declared.call.Answer.TheVariants.{Value, Message}
use Rattle.model.specs.declared.plan.Arrival.{Arrival}
use Rattle.model.specs.declared.plan.State.TheVariants.{Ready, Waiting, Stopped}
use Rattle.model.specs.World.{Plan, Run, Part, Sent, World, part, messages, channel, turn}
use Rattle.model.specs.Tick.{no, most_unheard, first_heard, with_tasks, with_memory, with_heard, showing, first_ready, looked}
use Rattle.model.specs.Tick.{later}

module _ {C : Type 0} where
  -- The world with another part, with other messages in a channel.
  unfoldable pub with_part : World C → ℕ → Part C → World C
  with_part w q x = record { time = w.time; parts = slice_set w.parts q x; channels = w.channels }

  unfoldable pub with_messages : World C → ℕ → List Sent → World C
  with_messages w c ms = record { time = w.time; parts = w.parts; channels = slice_set w.channels c ms }

  -- Partition q may send n bytes into channel c: there is such a channel, it comes from there, takes so many bytes, and has
  -- a place, or no places.
  unfoldable pub can_send : Plan → World C → ℕ → ℕ → ℕ → Bool
  can_send p w q c n =
      (nat_lt c (length p.channels) && (channel p.channels c).from == q)
      && (nat_le n (channel p.channels c).bytes
      && ((channel p.channels c).places == 0 || nat_lt (length (messages w c)) (channel p.channels c).places))

  -- The messages of channel c when these bytes are sent now: with no places they are the only ones.
  unfoldable pub now_sent : Plan → World C → ℕ → List ℕ → List Sent
  now_sent p w c bs =
      cond ((channel p.channels c).places == 0)
      (record { at = w.time; bytes = bs } ∷ [])
      (messages w c ++ record { at = w.time; bytes = bs } ∷ [])

  -- The world when the first message of channel c is taken and these are left: with no places the message stays.
  unfoldable pub now_taken : Plan → World C → ℕ → List Sent → World C
  now_taken p w c rest = cond ((channel p.channels c).places == 0) w (with_messages w c rest)

  -- Bytes from outside come, each for a partition, which keeps so many; others are lost.
  unfoldable pub arrive : List Arrival → World C → World C
  arrive [] w = w
  arrive (a ∷ row) w =
      arrive row
      (cond (nat_lt (length (part w a.partition).heard) most_unheard)
      (with_part w a.partition (with_heard (part w a.partition) ((part w a.partition).heard ++ a.byte ∷ [])))
      w)

module _ {C : Type 0} (M : Machine C) where
  -- Task i of a partition; one that is not there is stopped.
  unfoldable pub task_of : Part C → ℕ → Run C
  task_of x i = slice_index_or x.tasks i (record { state = Stopped; core = M.fresh 0; began = 0; late = 0 })

  unfoldable pub with_run : World C → ℕ → ℕ → Run C → World C
  with_run w q i r = with_part w q (with_tasks (part w q) (slice_set (part w q).tasks i r))

  -- Task i of partition q goes on with this core.
  unfoldable pub continues : World C → ℕ → ℕ → C → World C
  continues w q i c =
      with_run w q i (record { state = Ready; core = c; began = (task_of (part w q) i).began; late = (task_of (part w q) i).late })

  -- The first of these messages of channel c is taken to address a on, if it fits there.
  unfoldable pub takes_one : Plan → World C → ℕ → ℕ → (Answer → C) → ℕ → ℕ → List Sent → World C
  takes_one p w q i then c a [] = continues w q i (then (Value no))
  takes_one p w q i then c a (m ∷ ms) =
      cond (nat_le (a + length m.bytes) (length (part w q).memory))
      (continues (with_part (now_taken p w c ms) q (with_memory (part w q) (put (part w q).memory a m.bytes))) q i
      (then (Message ((w.time - m.at) % no) (length m.bytes))))
      (continues w q i (then (Value no)))

  -- A call of task i of partition q. What comes back goes to the task, which goes on, or waits.
  unfoldable pub does_call : Plan → World C → ℕ → ℕ → Call → (Answer → C) → World C
  does_call p w q i (Show b) then = continues (with_part w q (showing (part w q) w.time b)) q i (then (Value 0))
  does_call p w q i Wait then =
      with_run w q i (record { state = Waiting; core = then (Value 0); began = (task_of (part w q) i).began; late = 0 })
  does_call p w q i Clock then = continues w q i (then (Value (w.time % 4294967296)))
  does_call p w q i (Send c a n) then =
      cond (nat_le (a + n) (length (part w q).memory) && can_send p w q c n)
      (continues (with_messages w c (now_sent p w c (between a (a + n) (part w q).memory))) q i (then (Value 0)))
      (continues w q i (then (Value no)))
  does_call p w q i (Take c a) then =
      cond (nat_lt c (length p.channels) && (channel p.channels c).to == q)
      (takes_one p w q i then c a (messages w c))
      (continues w q i (then (Value no)))
  does_call p w q i Hear then =
      continues (with_part w q (with_heard (part w q) (drop 1 (part w q).heard))) q i
      (then (Value (first_heard (part w q).heard)))
  does_call p w q i Unknown then = continues w q i (then (Value no))

  -- What task i of partition q does with its instruction.
  unfoldable pub does_act : Plan → World C → ℕ → ℕ → Act C → World C
  does_act p w q i (quiet c) = continues w q i c
  does_act p w q i (store a bs c) = continues (with_part w q (with_memory (part w q) (put (part w q).memory a bs))) q i c
  does_act p w q i (call k then) = does_call p w q i k then
  does_act p w q i wrong =
      with_run w q i (record {
        state = Stopped;
        core = (task_of (part w q) i).core;
        began = (task_of (part w q) i).began;
        late = (task_of (part w q) i).late;
      })

  -- One instruction of partition q: of its first ready task, if there is one.
  unfoldable pub runs_task : Plan → World C → ℕ → Option ℕ → World C
  runs_task p w q None = w
  runs_task p w q (Some i) = does_act p w q i (M.act (task_of (part w q) i).core (part w q).memory)

  unfoldable pub runs_first : Plan → World C → ℕ → World C
  runs_first p w q = runs_task p w q (first_ready (slice_index_or p.tasks q []) 0 (part w q).tasks)

  -- The tasks of partition q are looked at in tick t.
  unfoldable pub looks_at : Plan → ℕ → ℕ → World C → World C
  looks_at p q t w = with_part w q (with_tasks (part w q) (looked M (slice_index_or p.tasks q []) 0 t (part w q).tasks))

  unfoldable pub works_for : Plan → ℕ → World C → Option ℕ → World C
  works_for p t w None = w
  works_for p t w (Some q) = runs_first p (looks_at p q t w) q

  -- One tick: bytes from outside come; then, if it is somebody's tick, that partition's tasks are looked at, and it does
  -- one instruction; then the time is one more.
  unfoldable pub whole_tick : Plan → World C → List Arrival → World C
  whole_tick p w row = later (works_for p w.time (arrive row w) (turn p w.time))
