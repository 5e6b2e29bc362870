-- What writes of the parts of a record come to for the task.
use Rattle.std.proofs.Common.{◌≡◌, ℕ, ◌+◌, length, List, ◌<◌, ◌*◌, refl, ap, ◌∙◌, arith}
use Rattle.octets.specs.Bytes.{put, bytes_of}
use Rattle.cpu.specs.Core.{Core}
use Rattle.model.specs.declared.plan.State.TheVariants.{Ready, Waiting, Stopped}
use Rattle.model.specs.World.{Run}
use Rattle.model.specs.Tick.{goes_on, waits, stops}
use Rattle.tasks.specs.declared.code.Code.{Code}
use Rattle.tasks.specs.declared.code.Code.TheVariants as code
use Rattle.tasks.specs.declared.record_mut.RecordMut.{RecordMut}
use Rattle.tasks.specs.Records.{run_at, state_in, late_in}
use Rattle.tasks.specs.Codes.{number_of, state_of, late_of}
use Rattle.tasks.specs.Lent.{Kept}
use Rattle.tasks.proofs.Records.{others_none}
use Rattle.tasks.proofs.Parts.{state_run}

-- What the number of a code says is what the code says.
pub code_state : (c : Code) → state_in (number_of c) ≡ state_of c
unfolding state_in
code_state code.Ready = refl
code_state code.Waiting = refl
code_state code.Stopped = refl
code_state code.StoppedLate = refl

pub code_late : (c : Code) (n : ℕ) → late_in (number_of c) n ≡ late_of c n
unfolding late_in
code_late code.Ready n = omega arith
code_late code.Waiting n = omega arith
code_late code.Stopped n = omega arith
code_late code.StoppedLate n = omega arith

-- The number of a code was written, and how often the task was late.
pub coded :
    (t t₁ t₂ : List ℕ) (i n late : ℕ) (c : Code) → length t ≡ 4096 → i < 16 → t₁ ≡ put t (256 * i) (bytes_of 1 n) → t₂ ≡ put t₁ (256 * i + 1) (bytes_of 1 late)
    → n ≡ number_of c → n < 256 → late < 256
    → run_at t₂ i ≡ record { state = state_of c; core = (run_at t i).core; began = (run_at t i).began; late = late_of c late }
coded t t₁ t₂ i n late c size below e₁ e₂ is fits₁ fits₂ =
    state_run t t₁ t₂ i n late size below e₁ e₂ fits₁ fits₂
    ∙ (λ j.
    record {
      state = (ap state_in is ∙ code_state c) j;
      core = (run_at t i).core;
      began = (run_at t i).began;
      late = (ap (λ m. late_in m late) is ∙ code_late c late) j;
    })

-- A record that nothing changed.
pub kept_none : (a : RecordMut) → Kept a a
kept_none a = record { table = refl; number = refl; others = others_none a.number a.table.now }

-- State, beginning and core, one after the other, make it begin.
pub begins :
    (r₁ r₂ r₃ r₄ : Run Core) (c new : Core) (began began' n n' : ℕ)
    → r₂ ≡ record { state = Ready; core = r₁.core; began = r₁.began; late = n }
    → r₃ ≡ record { state = r₂.state; core = r₂.core; began = began; late = r₂.late }
    → r₄ ≡ record { state = r₃.state; core = c; began = r₃.began; late = r₃.late }
    → c ≡ new → began ≡ began' → n ≡ n' → r₄ ≡ record { state = Ready; core = new; began = began'; late = n' }
begins r₁ r₂ r₃ r₄ c new began began' n n' e₂ e₃ e₄ ec eb en =
    e₄
    ∙ (λ j. record { state = (e₃ j).state; core = ec j; began = (e₃ j).began; late = (e₃ j).late })
    ∙ (λ j. record { state = (e₂ j).state; core = new; began = eb j; late = (e₂ j).late })
    ∙ ap (λ m. record { state = Ready; core = new; began = began'; late = m }) en

-- The core alone: it goes on.
pub goes_on_lem :
    (r₁ r₂ : Run Core) (c : Core) → r₁.state ≡ Ready → r₂ ≡ record { state = r₁.state; core = c; began = r₁.began; late = r₁.late } → r₂ ≡ goes_on c r₁
unfolding goes_on
goes_on_lem r₁ r₂ c s e = e ∙ ap (λ x. record { state = x; core = c; began = r₁.began; late = r₁.late }) s

-- The core and the state: it waits.
pub waits_on :
    (r₁ r₂ r₃ : Run Core) (c : Core) → r₂ ≡ record { state = r₁.state; core = c; began = r₁.began; late = r₁.late }
    → r₃ ≡ record { state = Waiting; core = r₂.core; began = r₂.began; late = 0 } → r₃ ≡ waits c r₁
unfolding waits
waits_on r₁ r₂ r₃ c e₂ e₃ = e₃ ∙ (λ j. record { state = Waiting; core = (e₂ j).core; began = (e₂ j).began; late = 0 })

-- The state alone: it stops.
pub stops_here : (r₁ r₂ : Run Core) (n : ℕ) → n ≡ r₁.late → r₂ ≡ record { state = Stopped; core = r₁.core; began = r₁.began; late = n } → r₂ ≡ stops r₁
unfolding stops
stops_here r₁ r₂ n en e = e ∙ ap (λ m. record { state = Stopped; core = r₁.core; began = r₁.began; late = m }) en
