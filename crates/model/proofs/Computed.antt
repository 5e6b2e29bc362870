-- The worked cases, computed. Assumes nothing.
use Rattle.std.proofs.Common.{◌≡◌, ℕ, zero, suc, Bool, true, eqb, List, [], ◌∷◌, get_or, replicate, sym, refl, ap, ◌∙◌, subst, arith}
use Rattle.std.proofs.lemmas.Bool.{eqb-true}
use Rattle.octets.specs.Bytes.{at, number, put}
use Rattle.cpu.specs.Core.{fresh}
use Rattle.cpu.specs.Rv32i.{rv32i}
use Rattle.model.specs.World.{part, messages, channel, round, turn_in, turn}
use Rattle.model.specs.Tick.{is_ready, is_waiting, update, better, may_send, sending, taking, changed, with_tasks, with_memory}
use Rattle.model.specs.Tick.{showing, checked, first_ready, changing, goes_on, waits, stops, refused, sends, takes_first, takes}
use Rattle.model.specs.Tick.{called, acted, woken, looked, does, instruction, part_tick, seen, applied, came, later, work}
use Rattle.model.specs.Tick.{tick, ticks, new_runs, new_parts, begin}
use Rattle.model.specs.Promise.{NoneInto, AlikeUnder, BackIsNeeded}
use Rattle.model.specs.Samples.{telling, sends_and_shows, takes_and_waits, goes_round, sharing, TurnsAre, turn_table, history}
use Rattle.model.specs.Samples.{RoundForEver, late_twice, SenderShows}

-- Opens what a run computes with.
unfoldable run : ℕ
unfolding at number put fresh part messages channel round turn_in turn is_ready is_waiting update better may_send sending taking changed with_tasks with_memory showing checked first_ready changing goes_on waits stops refused sends takes_first takes called acted woken looked does instruction part_tick seen applied came later work tick ticks new_runs new_parts begin history
run = 0

pub turns_are : TurnsAre (sharing 16 100 50 [] []) turn_table
unfolding run
turns_are = refl

pub round_for_ever : RoundForEver rv32i 200 30 1 late_twice
unfolding run
round_for_ever = refl

pub one_place : SenderShows rv32i 1 ((20, 0) ∷ (170, 0) ∷ []) ((20, 0) ∷ (170, 255) ∷ [])
unfolding run
one_place = (refl, refl)

pub no_places : SenderShows rv32i 0 ((20, 0) ∷ (170, 0) ∷ []) ((20, 0) ∷ (170, 0) ∷ [])
unfolding run
no_places = (refl, refl)

-- With one place, the sender alone is a set into which nothing comes, and its two runs differ.
sender : ℕ → Bool
sender q = eqb q 0

none_into : NoneInto sender (telling 1)
unfolding sender
none_into zero ch e to =
    let z : record { from = 0; to = 1; bytes = 4; places = 1 } ≡ ch = cc in
    subst (λ k. eqb k.to 0 ≡ true → eqb k.from 0 ≡ true) z (λ _. refl) to
none_into (suc c) ch e to = let z : ◌≡◌ {A = ℕ} 0 1 = cc in absurd (omega arith)

alone : AlikeUnder NoneInto sender (telling 1) (telling 1)
alone = record {
  closed = (none_into, none_into);
  turns = ((λ q t a e. e), (λ q t a e. e));
  channels = ((λ c ch e a. e), (λ c ch e a. e));
  tasks = λ q a. refl;
}

same_memories :
    (k : ℕ) → sender k ≡ true →
    get_or (sends_and_shows ∷ takes_and_waits ∷ []) k [] ≡ get_or (sends_and_shows ∷ goes_round ∷ []) k []
unfolding sender
same_memories k e = rw (eqb-true k 0 e)

pub back_is_needed : BackIsNeeded rv32i
unfolding sender
back_is_needed separated =
    let x = separated sender (telling 1) (telling 1) (sends_and_shows ∷ takes_and_waits ∷ [])
    (sends_and_shows ∷ goes_round ∷ []) (replicate 300 []) (replicate 300 []) 0 alone same_memories refl refl in
    let same : ◌≡◌ {A = List (ℕ × ℕ)} ((20, 0) ∷ (170, 0) ∷ []) ((20, 0) ∷ (170, 255) ∷ []) =
    sym one_place.0 ∙ (ap (λ y. y.shown) x ∙ one_place.1) in
    let z : ◌≡◌ {A = ℕ} 0 255 = ap (λ l. (get_or {A = ℕ × ℕ} l 1 (0, 0)).1) same in
    omega arith
