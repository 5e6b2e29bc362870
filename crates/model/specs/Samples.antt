-- Worked cases: whose tick each is, a task that goes round for ever, and what a sender learns through a channel with
-- places. Assumes nothing: these are definitions.
use Rattle.std.specs.Prelude.{◌≡◌, ℕ, zero, suc, List, [], ◌∷◌, ◌++◌, map, replicate, Some, None, Option}
use Rattle.cpu.specs.Act.{Machine}
use Rattle.model.specs.declared.plan.Channel.{Channel}
use Rattle.model.specs.declared.plan.Task.{Task}
use Rattle.model.specs.declared.plan.State.{State}
use Rattle.model.specs.declared.plan.State.TheVariants.{Ready, Waiting, Stopped}
use Rattle.model.specs.World.{Plan, World, part, turn}
use Rattle.model.specs.Tick.{tick, ticks, begin}

-- The plan of the worked cases: a window of a ticks for partition 0, then one of b ticks for partition 1; the first s ticks
-- of each are the system's.
abbrev pub sharing : ℕ → ℕ → ℕ → List Channel → List (List Task) → Plan
sharing s a b chs kss = record {
  system = s;
  windows = record { partition = 0; ticks = a } ∷ record { partition = 1; ticks = b } ∷ [];
  channels = chs;
  tasks = kss;
}

-- Each tick of the table is whose the table says.
abbrev pub TurnsAre : Plan → List (ℕ × Option ℕ) → Type 0
TurnsAre p table = map (λ e. turn p e.0) table ≡ map (λ e. e.1) table

abbrev pub turn_table : List (ℕ × Option ℕ)
turn_table =
    (0, None) ∷ (15, None) ∷ (16, Some 0) ∷ (99, Some 0) ∷ (100, None) ∷ (116, Some 1) ∷ (149, Some 1) ∷ (150, None)
    ∷ (166, Some 0) ∷ []

-- The bytes of words, low byte first: jal x0, 0 goes round for ever.
abbrev pub goes_round : List ℕ
goes_round = 0x6f ∷ 0x00 ∷ 0x00 ∷ 0x00 ∷ []

-- Sends the byte at 0 into channel 0, shows the answer's low byte, waits:
--     addi x17, x0, 3    addi x12, x0, 1    ecall    addi x17, x0, 0    ecall    addi x17, x0, 1    ecall
-- (a new task's x10 is its number, 0, and x11 is 0).
abbrev pub sends_and_shows : List ℕ
sends_and_shows =
    0x93 ∷ 0x08 ∷ 0x30 ∷ 0x00 ∷ 0x13 ∷ 0x06 ∷ 0x10 ∷ 0x00 ∷ 0x73 ∷ 0x00 ∷ 0x00 ∷ 0x00 ∷ 0x93 ∷ 0x08 ∷ 0x00 ∷ 0x00
    ∷ 0x73 ∷ 0x00 ∷ 0x00 ∷ 0x00 ∷ 0x93 ∷ 0x08 ∷ 0x10 ∷ 0x00 ∷ 0x73 ∷ 0x00 ∷ 0x00 ∷ 0x00 ∷ []

-- Takes a message from channel 0 to address 20, waits:
--     addi x17, x0, 4    addi x11, x0, 20    ecall    addi x17, x0, 1    ecall
abbrev pub takes_and_waits : List ℕ
takes_and_waits =
    0x93 ∷ 0x08 ∷ 0x40 ∷ 0x00 ∷ 0x93 ∷ 0x05 ∷ 0x40 ∷ 0x01 ∷ 0x73 ∷ 0x00 ∷ 0x00 ∷ 0x00 ∷ 0x93 ∷ 0x08 ∷ 0x10 ∷ 0x00
    ∷ 0x73 ∷ 0x00 ∷ 0x00 ∷ 0x00 ∷ 0x00 ∷ 0x00 ∷ 0x00 ∷ 0x00 ∷ []

-- Channel 0 is from partition 0 to partition 1, and has so many places. Each partition is one task with a period of 150
-- ticks.
abbrev pub telling : ℕ → Plan
telling places =
    let k : Task = record { priority = 1; period = 150; deadline = 150; lates = 0 } in
    sharing 16 100 50 (record { from = 0; to = 1; bytes = 4; places = places } ∷ []) ((k ∷ []) ∷ (k ∷ []) ∷ [])

module _ {C : Type 0} (M : Machine C) where
  -- The world after 0, 1, 2 and so on to n ticks, with no bytes from outside.
  unfoldable pub history : Plan → ℕ → World C → List (World C)
  history p zero w = w ∷ []
  history p (suc n) w = w ∷ history p n (tick M p w [])

  -- How often the tasks of partition 0 have been late, and what they are doing.
  abbrev pub standing : World C → List (ℕ × State)
  standing w = map (λ r. (r.late, r.state)) (part w 0).tasks

  -- One task, in partition 0, that goes round for ever, with this period, this deadline, and so many times that it may be
  -- late: how it stands after 0, 1, 2 and so on to 240 ticks.
  abbrev pub RoundForEver : ℕ → ℕ → ℕ → List (List (ℕ × State)) → Type 0
  RoundForEver period deadline lates table =
      let p : Plan =
      sharing 16 100 50 [] ((record { priority = 1; period = period; deadline = deadline; lates = lates } ∷ []) ∷ [] ∷ []) in
      map standing (history p 240 (begin M p (goes_round ∷ [] ∷ []))) ≡ table

  -- What the sender, partition 0, has shown after 300 ticks, where channel 0 goes to partition 1 and has so many places, and
  -- partition 1 runs this program.
  abbrev pub shown_by_sender : ℕ → List ℕ → List (ℕ × ℕ)
  shown_by_sender places receiver =
      (part (ticks M (telling places) (begin M (telling places) (sends_and_shows ∷ receiver ∷ [])) (replicate 300 [])) 0).shown

  -- What the sender shows where the receiver takes each message, and where it takes none.
  abbrev pub SenderShows : ℕ → List (ℕ × ℕ) → List (ℕ × ℕ) → Type 0
  SenderShows places taken left = (shown_by_sender places takes_and_waits ≡ taken) × (shown_by_sender places goes_round ≡ left)

-- Late in tick 30 and, of the next period, in tick 230, where it is stopped; in no other tick.
abbrev pub late_twice : List (List (ℕ × State))
late_twice =
    replicate 31 ((0, Ready) ∷ [])
    ++ (replicate 170 ((1, Waiting) ∷ []) ++ (replicate 30 ((1, Ready) ∷ []) ++ replicate 10 ((2, Stopped) ∷ [])))
