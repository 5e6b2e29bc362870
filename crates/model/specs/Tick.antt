-- What a tick does. A partition's own tick is a function of what the partition may see: its tasks' plan, the time, the
-- channels that it has an end of, and its own part. Assumes nothing: these are definitions.
use Rattle.std.specs.Prelude.{ℕ, zero, suc, ◌+◌, ◌-◌, ◌%◌, Bool, true, false, cond, ◌&&◌, ◌||◌, List, [], ◌∷◌, ◌++◌, length, drop, replicate, Some, None, Option, ◌==◌, nat_le, nat_lt, slice_index_or, slice_set}
use Rattle.std.specs.List.{between}
use Rattle.octets.specs.Bytes.{put}
use Rattle.cpu.specs.Act.{Act, quiet, store, call, wrong, Machine}
use Rattle.cpu.specs.declared.call.Call.{Call}
use Rattle.cpu.specs.declared.call.Call.TheVariants.{Show, Wait, Clock, Send, Take, Hear, Unknown}
use Rattle.cpu.specs.declared.call.Answer.{Answer}
use Rattle.cpu.specs.declared.call.Answer.TheVariants.{Value, Message}
use Rattle.model.specs.declared.plan.Channel.{Channel}
use Rattle.model.specs.declared.plan.Task.{Task}
use Rattle.model.specs.declared.plan.Arrival.{Arrival}
use Rattle.model.specs.declared.plan.State.{State}
use Rattle.model.specs.declared.plan.State.TheVariants.{Ready, Waiting, Stopped}
use Rattle.model.specs.World.{Plan, Run, Part, Sent, World, no_task, part, messages, channel, turn}

-- The answer of a call that is refused.
abbrev pub no : ℕ
no = 4294967295

-- How many bytes from outside a partition keeps until it hears them.
abbrev pub most_unheard : ℕ
most_unheard = 1024

-- What becomes of the channels in a partition's tick: nothing, or one of them has other messages.
pub data Change : Type 0 where
  none : Change
  becomes : ℕ → List Sent → Change

-- What a partition's tick comes to: its new part, and what becomes of the channels.
pub record Step (C : Type 0) : Type 0 where
  pub part : Part C
  pub change : Change

unfoldable pub is_ready : State → Bool
is_ready Ready = true
is_ready Waiting = false
is_ready Stopped = false

unfoldable pub is_waiting : State → Bool
is_waiting Ready = false
is_waiting Waiting = true
is_waiting Stopped = false

-- The list with its element number i changed so.
unfoldable pub update : {A : Type 0} → List A → ℕ → (A → A) → List A
update [] i f = []
update (x ∷ xs) zero f = f x ∷ xs
update (x ∷ xs) (suc i) f = x ∷ update xs i f

-- Task i, if it is ready, against the best of those behind it: that one goes first only if its priority is higher.
unfoldable pub better : List Task → ℕ → Bool → Option ℕ → Option ℕ
better ks i false o = o
better ks i true None = Some i
better ks i true (Some j) = Some (cond (nat_lt (slice_index_or ks i no_task).priority (slice_index_or ks j no_task).priority) j i)

-- The byte that came first, or no.
unfoldable pub first_heard : List ℕ → ℕ
first_heard [] = no
first_heard (b ∷ bs) = b

-- What a partition sees of a channel that it has an end of: the channel's plan, and the messages in it.
pub record Sight : Type 0 where
  pub plan : Channel
  pub messages : List Sent

-- Whether partition q may send n bytes: the channel comes from there, takes so many bytes, and has a place, or no places.
unfoldable pub may_send : ℕ → Sight → ℕ → Bool
may_send q s n =
    (s.plan.from == q)
    && (nat_le n s.plan.bytes && (s.plan.places == 0 || nat_lt (length s.messages) s.plan.places))

-- The messages of a channel when one more is sent in tick t: with no places it is the only one.
unfoldable pub sending : ℕ → Sight → List ℕ → List Sent
sending t s bs = cond (s.plan.places == 0) (record { at = t; bytes = bs } ∷ []) (s.messages ++ record { at = t; bytes = bs } ∷ [])

-- What becomes of channel c when its first message is taken, and these are left: with no places the message stays.
unfoldable pub taking : ℕ → Sight → List Sent → Change
taking c s rest = cond (s.plan.places == 0) none (becomes c rest)

-- The channels as they are after a change.
unfoldable pub changed : Change → List (List Sent) → List (List Sent)
changed none cs = cs
changed (becomes c ms) cs = slice_set cs c ms

module _ {C : Type 0} where
  unfoldable pub with_tasks : Part C → List (Run C) → Part C
  with_tasks x rs = record { memory = x.memory; tasks = rs; heard = x.heard; shown = x.shown }

  unfoldable pub with_memory : Part C → List ℕ → Part C
  with_memory x m = record { memory = m; tasks = x.tasks; heard = x.heard; shown = x.shown }

  unfoldable pub with_heard : Part C → List ℕ → Part C
  with_heard x bs = record { memory = x.memory; tasks = x.tasks; heard = bs; shown = x.shown }

  unfoldable pub showing : Part C → ℕ → ℕ → Part C
  showing x t b = record { memory = x.memory; tasks = x.tasks; heard = x.heard; shown = x.shown ++ (t, b) ∷ [] }

  -- A ready task whose deadline has come since it began is late once more; it waits, or is stopped if it had been late as
  -- often as it may.
  unfoldable pub checked : Task → ℕ → Run C → Run C
  checked k t r =
      cond (is_ready r.state && nat_le (r.began + k.deadline) t)
      (record { state = cond (nat_le k.lates r.late) Stopped Waiting; core = r.core; began = r.began; late = suc r.late }) r

  -- The ready task with the highest priority, the first of equals.
  unfoldable pub first_ready : List Task → ℕ → List (Run C) → Option ℕ
  first_ready ks i [] = None
  first_ready ks i (r ∷ rs) = better ks i (is_ready r.state) (first_ready ks (suc i) rs)

  -- A part whose task number i has changed so.
  unfoldable pub changing : Part C → ℕ → (Run C → Run C) → Part C
  changing x i f = with_tasks x (update x.tasks i f)

  -- It goes on with this core; it waits; it is stopped.
  unfoldable pub goes_on : C → Run C → Run C
  goes_on c r = record { state = Ready; core = c; began = r.began; late = r.late }

  unfoldable pub waits : C → Run C → Run C
  waits c r = record { state = Waiting; core = c; began = r.began; late = 0 }

  unfoldable pub stops : Run C → Run C
  stops r = record { state = Stopped; core = r.core; began = r.began; late = r.late }

  -- A call of task i that is refused changes nothing but what comes back.
  unfoldable pub refused : Part C → ℕ → (Answer → C) → Step C
  refused x i then = record { part = changing x i (goes_on (then (Value no))); change = none }

  -- How task i of partition q does a call in tick t, where the partition sees the channels so.
  module _ (q t : ℕ) (seen : ℕ → Option Sight) where
    -- A send of n bytes from address a on into channel c.
    unfoldable pub sends : Part C → ℕ → (Answer → C) → ℕ → ℕ → ℕ → Option Sight → Step C
    sends x i then c a n None = refused x i then
    sends x i then c a n (Some s) =
        cond (nat_le (a + n) (length x.memory) && may_send q s n)
        (record { part = changing x i (goes_on (then (Value 0))); change = becomes c (sending t s (between a (a + n) x.memory)) })
        (refused x i then)

    -- A take of the first of these messages from channel c to address a on.
    unfoldable pub takes_first : Part C → ℕ → (Answer → C) → ℕ → ℕ → Sight → List Sent → Step C
    takes_first x i then c a s [] = refused x i then
    takes_first x i then c a s (m ∷ ms) =
        cond (nat_le (a + length m.bytes) (length x.memory))
        (record {
          part = changing (with_memory x (put x.memory a m.bytes)) i (goes_on (then (Message ((t - m.at) % no) (length m.bytes))));
          change = taking c s ms;
        })
        (refused x i then)

    unfoldable pub takes : Part C → ℕ → (Answer → C) → ℕ → ℕ → Option Sight → Step C
    takes x i then c a None = refused x i then
    takes x i then c a (Some s) = cond (s.plan.to == q) (takes_first x i then c a s s.messages) (refused x i then)

    unfoldable pub called : Part C → ℕ → Call → (Answer → C) → Step C
    called x i (Show b) then = record { part = changing (showing x t b) i (goes_on (then (Value 0))); change = none }
    called x i Wait then = record { part = changing x i (waits (then (Value 0))); change = none }
    called x i Clock then = record { part = changing x i (goes_on (then (Value (t % 4294967296)))); change = none }
    called x i (Send c a n) then = sends x i then c a n (seen c)
    called x i (Take c a) then = takes x i then c a (seen c)
    called x i Hear then = record { part = changing (with_heard x (drop 1 x.heard)) i (goes_on (then (Value (first_heard x.heard)))); change = none }
    called x i Unknown then = refused x i then

    -- How task i does what its instruction comes to.
    unfoldable pub acted : Part C → ℕ → Act C → Step C
    acted x i (quiet c) = record { part = changing x i (goes_on c); change = none }
    acted x i (store a bs c) = record { part = changing (with_memory x (put x.memory a bs)) i (goes_on c); change = none }
    acted x i (call k then) = called x i k then
    acted x i wrong = record { part = changing x i stops; change = none }

module _ {C : Type 0} (M : Machine C) where
  -- A waiting task begins anew when its period is over: its core is new, and its beginning moves on by one period, however
  -- late it is noticed.
  unfoldable pub woken : Task → ℕ → ℕ → Run C → Run C
  woken k i t r =
      cond (is_waiting r.state && nat_le (r.began + k.period) t)
      (record { state = Ready; core = M.fresh i; began = r.began + k.period; late = r.late }) r

  -- A partition's tasks are looked at, each: first whether it begins anew, then whether it is late.
  unfoldable pub looked : List Task → ℕ → ℕ → List (Run C) → List (Run C)
  looked ks i t [] = []
  looked ks i t (r ∷ rs) = checked (slice_index_or ks i no_task) t (woken (slice_index_or ks i no_task) i t r) ∷ looked ks (suc i) t rs

  module _ (q t : ℕ) (seen : ℕ → Option Sight) where
    -- One instruction of task i.
    unfoldable pub does : Part C → ℕ → List (Run C) → Step C
    does x i [] = record { part = x; change = none }
    does x i (r ∷ rs) = acted q t seen x i (M.act r.core x.memory)

    -- One instruction of the task that goes first, if there is one.
    unfoldable pub instruction : Part C → Option ℕ → Step C
    instruction x None = record { part = x; change = none }
    instruction x (Some i) = does x i (drop i x.tasks)

    -- The tick of a partition.
    unfoldable pub part_tick : List Task → Part C → Step C
    part_tick ks x = instruction (with_tasks x (looked ks 0 t x.tasks)) (first_ready ks 0 (looked ks 0 t x.tasks))

module _ {C : Type 0} where
  -- What partition q sees of the channels: those that it has an end of.
  unfoldable pub seen : List Channel → ℕ → World C → ℕ → Option Sight
  seen chs q w c =
      cond (nat_lt c (length chs) && ((channel chs c).from == q || (channel chs c).to == q))
      (Some (record { plan = channel chs c; messages = messages w c })) None

  unfoldable pub applied : World C → ℕ → Step C → World C
  applied w q s = record { time = w.time; parts = slice_set w.parts q s.part; channels = changed s.change w.channels }

  -- Bytes from outside come, each for a partition, which keeps so many; others are lost.
  unfoldable pub hearing : ℕ → Part C → Part C
  hearing b x = cond (nat_lt (length x.heard) most_unheard) (with_heard x (x.heard ++ b ∷ [])) x

  unfoldable pub came : List Arrival → World C → World C
  came [] w = w
  came (a ∷ as') w = came as' (record { time = w.time; parts = slice_set w.parts a.partition (hearing a.byte (part w a.partition)); channels = w.channels })

  unfoldable pub later : World C → World C
  later w = record { time = suc w.time; parts = w.parts; channels = w.channels }

module _ {C : Type 0} (M : Machine C) (p : Plan) where
  unfoldable pub work : World C → Option ℕ → World C
  work w None = w
  work w (Some q) =
      applied w q (part_tick M q w.time (seen p.channels q w) (slice_index_or p.tasks q []) (part w q))

  -- One tick: bytes from outside come; then, if it is a partition's tick, its tasks are looked at, and it does one
  -- instruction; then the time is one more.
  unfoldable pub tick : World C → List Arrival → World C
  tick w row = later (work (came row w) (turn p w.time))

  unfoldable pub ticks : World C → List (List Arrival) → World C
  ticks w [] = w
  ticks w (row ∷ rows) = ticks (tick w row) rows

module _ {C : Type 0} (M : Machine C) where
  -- At the start the time is 0, all tasks are ready, new, and have begun at 0, and channels are empty.
  unfoldable pub new_runs : ℕ → List Task → List (Run C)
  new_runs i [] = []
  new_runs i (k ∷ ks) = record { state = Ready; core = M.fresh i; began = 0; late = 0 } ∷ new_runs (suc i) ks

  unfoldable pub new_parts : List (List Task) → List (List ℕ) → List (Part C)
  new_parts [] ms = []
  new_parts (ks ∷ rest) [] = record { memory = []; tasks = new_runs 0 ks; heard = []; shown = [] } ∷ new_parts rest []
  new_parts (ks ∷ rest) (m ∷ ms) = record { memory = m; tasks = new_runs 0 ks; heard = []; shown = [] } ∷ new_parts rest ms

  unfoldable pub begin : Plan → List (List ℕ) → World C
  begin p ms = record { time = 0; parts = new_parts p.tasks ms; channels = replicate (length p.channels) [] }
