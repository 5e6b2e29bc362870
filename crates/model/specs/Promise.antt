-- What is promised of the model. Each is a statement, whose proof a function of src owes. Assumes nothing: these are
-- definitions.
use Rattle.std.specs.Prelude.{◌≡◌, ℕ, ◌+◌, ◌*◌, ◌<◌, ◌≤◌, max, Bool, true, cond, ◌||◌, ◌≢◌, ◌⊎◌, List, [], map, length, take, Some, None, filter, MatchOption, nat_lt, slice_index_or}
use Rattle.std.specs.List.{AllByRecursion, slice_get}
use Rattle.cpu.specs.Act.{Act, quiet, store, call, wrong, Machine}
use Rattle.model.specs.declared.plan.Window.{Window}
use Rattle.model.specs.declared.plan.Channel.{Channel}
use Rattle.model.specs.declared.plan.Task.{Task}
use Rattle.model.specs.declared.plan.Arrival.{Arrival}
use Rattle.model.specs.declared.plan.State.TheVariants.{Ready}
use Rattle.model.specs.World.{Plan, Run, Sent, World, no_task, part, messages, round, turn}
use Rattle.model.specs.Tick.{first_ready, tick, ticks, begin}
use Rattle.model.specs.Whole.{whole_tick}

-- SEPARATION. A is a set of partitions.

-- A channel touches the set if it has an end in it.
abbrev pub touches : (ℕ → Bool) → Channel → Bool
touches A ch = A ch.from || A ch.to

-- Each channel of p that touches the set is a channel of r, under the same number.
abbrev pub SameChannels : (ℕ → Bool) → Plan → Plan → Type 0
SameChannels A p r =
    (c : ℕ) (ch : Channel) → slice_get p.channels c ≡ Some ch → touches A ch ≡ true → slice_get r.channels c ≡ Some ch

-- Each tick of p that is a partition's of the set is that partition's in r.
abbrev pub SameTurns : (ℕ → Bool) → Plan → Plan → Type 0
SameTurns A p r = (q t : ℕ) → A q ≡ true → turn p t ≡ Some q → turn r t ≡ Some q

-- Nothing comes into the set from outside it: a channel to the set is from the set.
abbrev pub NoneInto : (ℕ → Bool) → Plan → Type 0
NoneInto A p = (c : ℕ) (ch : Channel) → slice_get p.channels c ≡ Some ch → A ch.to ≡ true → A ch.from ≡ true

-- Nothing comes back: a channel from the set is to the set or has no places, so that its sender never learns whether a
-- message was taken.
abbrev pub NoneBack : (ℕ → Bool) → Plan → Type 0
NoneBack A p =
    (c : ℕ) (ch : Channel) → slice_get p.channels c ≡ Some ch → A ch.from ≡ true → (A ch.to ≡ true) ⊎ (ch.places ≡ 0)

pub record Closed (A : ℕ → Bool) (p : Plan) : Type 0 where
  pub into : NoneInto A p
  pub back : NoneBack A p

-- Two plans are alike for the set, which is shut off in both: the same ticks are its partitions', their tasks are the same,
-- and so are the channels that touch it. All else may differ: the others' number, tasks and windows, and the channels
-- among them.
pub record AlikeUnder (Shut : (ℕ → Bool) → Plan → Type 0) (A : ℕ → Bool) (p r : Plan) : Type 0 where
  pub closed : Shut A p × Shut A r
  pub turns : SameTurns A p r × SameTurns A r p
  pub channels : SameChannels A p r × SameChannels A r p
  pub tasks : (q : ℕ) → A q ≡ true → slice_get p.tasks q ≡ slice_get r.tasks q

abbrev pub Alike : (ℕ → Bool) → Plan → Plan → Type 0
Alike = AlikeUnder Closed

-- The arrivals for partitions of the set.
abbrev pub only : (ℕ → Bool) → List Arrival → List Arrival
only A row = filter (λ a. A a.partition) row

-- Two worlds agree on the set: the time, its partitions, and the messages in the channels of p that touch it.
pub record Agree {C : Type 0} (A : ℕ → Bool) (p : Plan) (w v : World C) : Type 0 where
  pub time : w.time ≡ v.time
  pub parts : (q : ℕ) → A q ≡ true → slice_get w.parts q ≡ slice_get v.parts q
  pub channels :
      (c : ℕ) (ch : Channel) → slice_get p.channels c ≡ Some ch → touches A ch ≡ true →
      slice_get w.channels c ≡ slice_get v.channels c

-- WHAT A CHANNEL HOLDS: no more messages than it has places, or one if it has none, and none longer than it allows.
pub record Fits (ch : Channel) (ms : List Sent) : Type 0 where
  pub few : length ms ≤ max 1 ch.places
  pub short : AllByRecursion (λ m. length m.bytes ≤ ch.bytes) ms

abbrev pub AllFit : {C : Type 0} → Plan → World C → Type 0
AllFit p w = (c : ℕ) (ch : Channel) → slice_get p.channels c ≡ Some ch → Fits ch (messages w c)

-- Each byte that q has shown was shown in a tick of q's own.
abbrev pub ShownInOwn : {C : Type 0} → Plan → World C → ℕ → Type 0
ShownInOwn p w q = AllByRecursion (λ e. turn p e.0 ≡ Some q) (part w q).shown

-- WHICH TASK GOES FIRST. Task k is ready; its priority.
abbrev pub ReadyAt : {C : Type 0} → List (Run C) → ℕ → Type 0
ReadyAt rs k = slice_get (map (λ r. r.state) rs) k ≡ Some Ready

abbrev pub priority_of : List Task → ℕ → ℕ
priority_of ks k = (slice_index_or ks k no_task).priority

-- Task j is ready, no ready task has a higher priority, and none before it has an equal one.
pub record GoesFirst {C : Type 0} (ks : List Task) (rs : List (Run C)) (j : ℕ) : Type 0 where
  pub ready : ReadyAt rs j
  pub highest : (k : ℕ) → ReadyAt rs k → priority_of ks k ≤ priority_of ks j
  pub first : (k : ℕ) → ReadyAt rs k → k < j → priority_of ks k < priority_of ks j

-- The task that first_ready names goes first; if it names none, none is ready.
abbrev pub FirstReady : Type 0 → Type 0
FirstReady C =
    (ks : List Task) (rs : List (Run C)) →
    MatchOption (first_ready ks 0 rs) ((k : ℕ) → ReadyAt rs k → ⊥) (λ j. GoesFirst ks rs j)

-- HOW LONG A MEMORY IS. What an instruction stores lies in memory.
abbrev pub Within : {C : Type 0} → List ℕ → Act C → Type 0
Within m (quiet c) = Unit {0}
Within m (store a bs c) = a + length bs ≤ length m
Within m (call k then) = Unit {0}
Within m wrong = Unit {0}

abbrev pub StoresWithin : {C : Type 0} → Machine C → Type 0
StoresWithin {C} M = (c : C) (m : List ℕ) → Within m (M.act c m)

-- WHOSE TICK IT IS. In every round, number n, tick j of window k is nobody's if j is one of the system's ticks, and else
-- the tick of the window's partition.
abbrev pub TurnsByWindow : Type 0
TurnsByWindow =
    (p : Plan) (n k j : ℕ) (w : Window) → slice_get p.windows k ≡ Some w → j < w.ticks →
    turn p (n * round p.windows + (round (take k p.windows) + j)) ≡ cond (nat_lt j p.system) None (Some w.partition)

module _ {C : Type 0} (M : Machine C) where
  -- One tick: worlds that agree on the set, under plans that are alike for it and with the same arrivals for it, agree on
  -- the set after a tick each.
  abbrev pub TickSeparates : Type 0
  TickSeparates =
      (A : ℕ → Bool) (p r : Plan) (w v : World C) (row other : List Arrival) → Alike A p r → only A row ≡ only A other →
      Agree A p w v → Agree A p (tick M p w row) (tick M r v other)

  -- Many ticks: the same, with the same arrivals for the set in each.
  abbrev pub RunSeparates : Type 0
  RunSeparates =
      (A : ℕ → Bool) (p r : Plan) (w v : World C) (rows others : List (List Arrival)) → Alike A p r →
      map (only A) rows ≡ map (only A) others → Agree A p w v → Agree A p (ticks M p w rows) (ticks M r v others)

  -- A whole run from the beginning: with equal memories in the set and the same arrivals for it, tick by tick, each of its
  -- partitions is the same in both: memory, tasks, unheard bytes and what it has shown.
  abbrev pub SeparatesUnder : ((ℕ → Bool) → Plan → Type 0) → Type 0
  SeparatesUnder Shut =
      (A : ℕ → Bool) (p r : Plan) (ms ns : List (List ℕ)) (rows others : List (List Arrival)) (q : ℕ) →
      AlikeUnder Shut A p r → ((k : ℕ) → A k ≡ true → slice_index_or ms k [] ≡ slice_index_or ns k []) →
      map (only A) rows ≡ map (only A) others → A q ≡ true →
      part (ticks M p (begin M p ms) rows) q ≡ part (ticks M r (begin M r ns) others) q

  -- It holds of a closed set.
  abbrev pub Separates : Type 0
  Separates = SeparatesUnder Closed

  -- It does not hold of every set into which nothing comes: what comes back tells the sender.
  abbrev pub BackIsNeeded : Type 0
  BackIsNeeded = SeparatesUnder NoneInto → ⊥

  -- A tick keeps it that each byte was shown in an own tick, and so a run from the beginning has it.
  abbrev pub ShowsInOwnTicks : Type 0
  ShowsInOwnTicks =
      ((p : Plan) (w : World C) (row : List Arrival) (q : ℕ) → ShownInOwn p w q → ShownInOwn p (tick M p w row) q)
      × ((p : Plan) (ms : List (List ℕ)) (rows : List (List Arrival)) (q : ℕ) → ShownInOwn p (ticks M p (begin M p ms) rows) q)

  -- A partition's memory, its tasks and what it has shown change in its own ticks only.
  abbrev pub ChangesInOwnTicks : Type 0
  ChangesInOwnTicks =
      (p : Plan) (w : World C) (row : List Arrival) (q : ℕ) → turn p w.time ≢ Some q →
      ((part (tick M p w row) q).memory ≡ (part w q).memory)
      × ((part (tick M p w row) q).tasks ≡ (part w q).tasks)
      × ((part (tick M p w row) q).shown ≡ (part w q).shown)

  -- On a core that stores in memory only, each partition's memory keeps its length.
  abbrev pub MemoriesKeepLength : Type 0
  MemoriesKeepLength =
      StoresWithin M → (p : Plan) (w : World C) (row : List Arrival) (q : ℕ) →
      length (part (tick M p w row) q).memory ≡ length (part w q).memory

  -- A tick keeps it that the channels hold what they may, and so a run from the beginning has it.
  abbrev pub ChannelsFit : Type 0
  ChannelsFit =
      ((p : Plan) (w : World C) (row : List Arrival) → AllFit p w → AllFit p (tick M p w row))
      × ((p : Plan) (ms : List (List ℕ)) (rows : List (List Arrival)) → AllFit p (ticks M p (begin M p ms) rows))

  -- The tick written over the whole world is this tick.
  abbrev pub WholeIsSame : Type 0
  WholeIsSame = (p : Plan) (w : World C) (row : List Arrival) → whole_tick M p w row ≡ tick M p w row
