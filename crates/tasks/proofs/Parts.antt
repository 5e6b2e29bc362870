-- A write into one part of a record changes that part, and no other.
use Rattle.std.proofs.Common.{◌≡◌, ℕ, ◌+◌, ◌*◌, ◌^◌, ◌<◌, ◌≤◌, List, length, get_or, ap, ◌∙◌, inl, inr, arith, below_more}
use Rattle.octets.specs.Bytes.{put, bytes_of, at}
use Rattle.model.specs.declared.plan.Task.{Task}
use Rattle.tasks.specs.Records.{core_at, run_at, task_at, state_in, late_in, Others}
use Rattle.octets.proofs.Written.{at-put}
use Rattle.tasks.proofs.Elsewhere.{Outside, outside_put, outside_then, outside_wider}
use Rattle.tasks.proofs.Records.{core_is, core_same, run_is, task_is, task_same, others_within, others_then, registers_written}

read_back : (a b : List ℕ) (n k v : ℕ) → b ≡ put a k (bytes_of n v) → k + n ≤ length a → v < 256 ^ n → at n b k ≡ v
read_back a b n k v e h l = ap (λ z. at n z k) e ∙ at-put n a k v h l

-- The state's code, and how often it was late.
module _ (t t₁ t₂ : List ℕ) (i code late : ℕ) (size : length t ≡ 4096) (below : i < 16) (e₁ : t₁ ≡ put t (256 * i) (bytes_of 1 code)) (e₂ : t₂ ≡ put t₁ (256 * i + 1) (bytes_of 1 late)) where
  state_first : Outside (256 * i) (256 * i + 1) t t₁
  state_first = outside_put _ _ t t₁ 1 (256 * i) code e₁ (omega arith) (omega arith) (omega arith)

  state_second : Outside (256 * i + 1) (256 * i + 2) t₁ t₂
  state_second = outside_put _ _ t₁ t₂ 1 (256 * i + 1) late e₂ (omega (arith, state_first.long)) (omega arith) (omega arith)

  state_outside : Outside (256 * i) (256 * i + 2) t t₂
  state_outside =
      outside_then (outside_wider (256 * i) (256 * i + 1) (256 * i) (256 * i + 2) t t₁ (omega arith) (omega arith) state_first)
      (outside_wider (256 * i + 1) (256 * i + 2) (256 * i) (256 * i + 2) t₁ t₂ (omega arith) (omega arith) state_second)

  pub state_run : code < 256 → late < 256 → run_at t₂ i ≡ record { state = state_in code; core = (run_at t i).core; began = (run_at t i).began; late = late_in code late }
  unfolding run_at
  state_run f₁ f₂ =
      run_is t₂ i code late (at 8 t (256 * i + 8)) (core_at t i)
      (state_second.same 1 (256 * i) (inl (omega arith)) ∙ read_back t t₁ 1 (256 * i) code e₁ (omega arith) (omega arith))
      (read_back t₁ t₂ 1 (256 * i + 1) late e₂ (omega (arith, state_first.long)) (omega arith))
      (state_outside.same 8 (256 * i + 8) (inr (omega arith)))
      (core_same t t₂ i (state_outside.same 4 (256 * i + 16) (inr (omega arith))) (λ r l u. state_outside.same 4 (256 * i + 128 + 4 * r) (inr (omega arith))))

  pub state_plan : task_at t₂ i ≡ task_at t i
  state_plan =
      task_same t t₂ i (state_outside.same 1 (256 * i + 2) (inr (omega arith))) (state_outside.same 4 (256 * i + 20) (inr (omega arith)))
      (state_outside.same 4 (256 * i + 24) (inr (omega arith))) (state_outside.same 1 (256 * i + 3) (inr (omega arith)))

  pub state_others : Others i t t₂
  state_others = others_within i (256 * i) (256 * i + 2) t t₂ (omega arith) (omega arith) state_outside

-- When it began.
module _ (t t₁ : List ℕ) (i began : ℕ) (size : length t ≡ 4096) (below : i < 16) (e : t₁ ≡ put t (256 * i + 8) (bytes_of 8 began)) where
  began_outside : Outside (256 * i + 8) (256 * i + 16) t t₁
  began_outside = outside_put _ _ t t₁ 8 (256 * i + 8) began e (omega arith) (omega arith) (omega arith)

  pub began_run : began < 2 ^ 64 → run_at t₁ i ≡ record { state = (run_at t i).state; core = (run_at t i).core; began = began; late = (run_at t i).late }
  unfolding run_at
  began_run f =
      run_is t₁ i (at 1 t (256 * i)) (at 1 t (256 * i + 1)) began (core_at t i)
      (began_outside.same 1 (256 * i) (inl (omega arith)))
      (began_outside.same 1 (256 * i + 1) (inl (omega arith)))
      (read_back t t₁ 8 (256 * i + 8) began e (omega arith) (omega arith))
      (core_same t t₁ i (began_outside.same 4 (256 * i + 16) (inr (omega arith))) (λ r l u. began_outside.same 4 (256 * i + 128 + 4 * r) (inr (omega arith))))

  pub began_plan : task_at t₁ i ≡ task_at t i
  began_plan =
      task_same t t₁ i (began_outside.same 1 (256 * i + 2) (inl (omega arith))) (began_outside.same 4 (256 * i + 20) (inr (omega arith)))
      (began_outside.same 4 (256 * i + 24) (inr (omega arith))) (began_outside.same 1 (256 * i + 3) (inl (omega arith)))

  pub began_others : Others i t t₁
  began_others = others_within i (256 * i + 8) (256 * i + 16) t t₁ (omega arith) (omega arith) began_outside

-- One more register, behind those that are written.
pub register_more :
    (t₀ t t' x : List ℕ) (i r : ℕ) → length t ≡ 4096 → i < 16 → r < 32 → t' ≡ put t (256 * i + 128 + 4 * r) (bytes_of 4 (get_or x r 0)) → get_or x r 0 < 2 ^ 32
    → Outside (256 * i + 128) (256 * i + 256) t₀ t × ((k : ℕ) → k < r → at 4 t (256 * i + 128 + 4 * k) ≡ get_or x k 0)
    → Outside (256 * i + 128) (256 * i + 256) t₀ t' × ((k : ℕ) → k < r + 1 → at 4 t' (256 * i + 128 + 4 * k) ≡ get_or x k 0)
register_more t₀ t t' x i r size below less e fits inv = (
  outside_then inv.0 (outside_wider (256 * i + 128 + 4 * r) (256 * i + 128 + 4 * r + 4) (256 * i + 128) (256 * i + 256) t t' (omega arith) (omega arith) here),
  below_more (λ k. at 4 t' (256 * i + 128 + 4 * k) ≡ get_or x k 0) r (λ k h. here.same 4 (256 * i + 128 + 4 * k) (inl (omega arith)) ∙ inv.1 k h)
      (read_back t t' 4 (256 * i + 128 + 4 * r) (get_or x r 0) e (omega arith) fits),
)
  where
    here : Outside (256 * i + 128 + 4 * r) (256 * i + 128 + 4 * r + 4) t t'
    here = outside_put _ _ t t' 4 (256 * i + 128 + 4 * r) (get_or x r 0) e (omega arith) (omega arith) (omega arith)

-- The core: the pc, and then the registers.
module _ (t t₁ t₂ x : List ℕ) (i pc : ℕ) (size : length t ≡ 4096) (below : i < 16) (e : t₁ ≡ put t (256 * i + 16) (bytes_of 4 pc)) (o : Outside (256 * i + 128) (256 * i + 256) t₁ t₂) where
  pc_outside : Outside (256 * i + 16) (256 * i + 20) t t₁
  pc_outside = outside_put _ _ t t₁ 4 (256 * i + 16) pc e (omega arith) (omega arith) (omega arith)

  pub core_run :
      pc < 2 ^ 32 → length x ≡ 32 → get_or x 0 0 ≡ 0 → ((k : ℕ) → k < 32 → at 4 t₂ (256 * i + 128 + 4 * k) ≡ get_or x k 0)
      → run_at t₂ i ≡ record { state = (run_at t i).state; core = record { pc = pc; x = x }; began = (run_at t i).began; late = (run_at t i).late }
  unfolding run_at
  core_run f l z w =
      run_is t₂ i (at 1 t (256 * i)) (at 1 t (256 * i + 1)) (at 8 t (256 * i + 8)) (record { pc = pc; x = x })
      (o.same 1 (256 * i) (inl (omega arith)) ∙ pc_outside.same 1 (256 * i) (inl (omega arith)))
      (o.same 1 (256 * i + 1) (inl (omega arith)) ∙ pc_outside.same 1 (256 * i + 1) (inl (omega arith)))
      (o.same 8 (256 * i + 8) (inl (omega arith)) ∙ pc_outside.same 8 (256 * i + 8) (inl (omega arith)))
      (core_is t₂ i pc x
      (o.same 4 (256 * i + 16) (inl (omega arith)) ∙ read_back t t₁ 4 (256 * i + 16) pc e (omega arith) f)
      (registers_written x (λ k. at 4 t₂ (256 * i + 128 + 4 * k)) l z w))

  pub core_plan : task_at t₂ i ≡ task_at t i
  core_plan =
      task_same t t₂ i
      (o.same 1 (256 * i + 2) (inl (omega arith)) ∙ pc_outside.same 1 (256 * i + 2) (inl (omega arith)))
      (o.same 4 (256 * i + 20) (inl (omega arith)) ∙ pc_outside.same 4 (256 * i + 20) (inr (omega arith)))
      (o.same 4 (256 * i + 24) (inl (omega arith)) ∙ pc_outside.same 4 (256 * i + 24) (inr (omega arith)))
      (o.same 1 (256 * i + 3) (inl (omega arith)) ∙ pc_outside.same 1 (256 * i + 3) (inl (omega arith)))

  pub core_others : Others i t t₂
  core_others =
      others_then (others_within i (256 * i + 16) (256 * i + 20) t t₁ (omega arith) (omega arith) pc_outside)
      (others_within i (256 * i + 128) (256 * i + 256) t₁ t₂ (omega arith) (omega arith) o)

-- The plan.
module _ (t t₁ t₂ t₃ t₄ : List ℕ) (i : ℕ) (k : Task) (size : length t ≡ 4096) (below : i < 16)
    (e₁ : t₁ ≡ put t (256 * i + 2) (bytes_of 1 k.priority)) (e₂ : t₂ ≡ put t₁ (256 * i + 3) (bytes_of 1 k.lates))
    (e₃ : t₃ ≡ put t₂ (256 * i + 20) (bytes_of 4 k.period)) (e₄ : t₄ ≡ put t₃ (256 * i + 24) (bytes_of 4 k.deadline)) where
  o₁ : Outside (256 * i + 2) (256 * i + 3) t t₁
  o₁ = outside_put _ _ t t₁ 1 (256 * i + 2) k.priority e₁ (omega arith) (omega arith) (omega arith)

  o₂ : Outside (256 * i + 3) (256 * i + 4) t₁ t₂
  o₂ = outside_put _ _ t₁ t₂ 1 (256 * i + 3) k.lates e₂ (omega (arith, o₁.long)) (omega arith) (omega arith)

  o₃ : Outside (256 * i + 20) (256 * i + 24) t₂ t₃
  o₃ = outside_put _ _ t₂ t₃ 4 (256 * i + 20) k.period e₃ (omega (arith, o₁.long, o₂.long)) (omega arith) (omega arith)

  o₄ : Outside (256 * i + 24) (256 * i + 28) t₃ t₄
  o₄ = outside_put _ _ t₃ t₄ 4 (256 * i + 24) k.deadline e₄ (omega (arith, o₁.long, o₂.long, o₃.long)) (omega arith) (omega arith)

  pub plan_plan : k.priority < 2 ^ 8 → k.lates < 2 ^ 8 → k.period < 2 ^ 32 → k.deadline < 2 ^ 32 → task_at t₄ i ≡ k
  plan_plan f₁ f₂ f₃ f₄ =
      task_is t₄ i k
      (o₄.same 1 (256 * i + 2) (inl (omega arith)) ∙ o₃.same 1 (256 * i + 2) (inl (omega arith)) ∙ o₂.same 1 (256 * i + 2) (inl (omega arith)) ∙ read_back t t₁ 1 (256 * i + 2) k.priority e₁ (omega arith) f₁)
      (o₄.same 4 (256 * i + 20) (inl (omega arith)) ∙ read_back t₂ t₃ 4 (256 * i + 20) k.period e₃ (omega (arith, o₁.long, o₂.long)) f₃)
      (read_back t₃ t₄ 4 (256 * i + 24) k.deadline e₄ (omega (arith, o₁.long, o₂.long, o₃.long)) f₄)
      (o₄.same 1 (256 * i + 3) (inl (omega arith)) ∙ o₃.same 1 (256 * i + 3) (inl (omega arith)) ∙ read_back t₁ t₂ 1 (256 * i + 3) k.lates e₂ (omega (arith, o₁.long)) f₂)

  pub plan_others : Others i t t₄
  plan_others =
      others_then (others_within i (256 * i + 2) (256 * i + 3) t t₁ (omega arith) (omega arith) o₁)
      (others_then (others_within i (256 * i + 3) (256 * i + 4) t₁ t₂ (omega arith) (omega arith) o₂)
      (others_then (others_within i (256 * i + 20) (256 * i + 24) t₂ t₃ (omega arith) (omega arith) o₃)
      (others_within i (256 * i + 24) (256 * i + 28) t₃ t₄ (omega arith) (omega arith) o₄)))
