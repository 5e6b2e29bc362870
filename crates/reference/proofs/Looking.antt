-- A partition's tasks, made new or looked at one after the other, and the one that goes first.
use Rattle.std.proofs.Common.{◌≡◌, ℕ, zero, suc, ◌+◌, ◌<◌, ◌≤◌, List, [], ◌∷◌, ◌++◌, map, length, get_or, set, take, drop, None, sym, refl, ap, ◌∙◌, le_of_suc-le-suc, not-suc-le-zero, add-zero, add-suc, suc-add, add-one, arith}
use Rattle.std.specs.List.{refill}
use Rattle.std.proofs.lemmas.List.{at_drop_more, drop_all, take_all, append-nil, length-map, map-set, get_or-map}
use Rattle.std.proofs.Math.Seq.{map-set_same}
use Rattle.cpu.specs.Act.{Machine}
use Rattle.cpu.specs.Core.{Core}
use Rattle.model.specs.declared.plan.Task.{Task}
use Rattle.model.specs.declared.plan.State.TheVariants.{Ready}
use Rattle.model.specs.World.{Run, no_task}
use Rattle.model.specs.Tick.{woken, checked, looked, first_ready, better, is_ready, new_runs}
use Rattle.reference.specs.declared.task.Progress.{Progress}
use Rattle.reference.specs.declared.task.Running.{Running}
use Rattle.reference.specs.Parts.{task_of, run_of, run_in}
use Rattle.reference.proofs.Nths.{renewed_more, renewed_all, get_or_renewed}

module _ {C : Type 0} (M : Machine C) where
  pub length-new_runs : (ks : List Task) (i : ℕ) → length (new_runs M i ks) ≡ length ks
  unfolding new_runs
  length-new_runs [] i = refl
  length-new_runs (k ∷ ks) i = ap suc (length-new_runs ks (suc i))

  pub get_or-new_runs : (ks : List Task) (i j : ℕ) (d : Run C) → j < length ks → get_or (new_runs M i ks) j d ≡ record { state = Ready; core = M.fresh (i + j); began = 0; late = 0 }
  unfolding new_runs
  get_or-new_runs [] i j d h = absurd (not-suc-le-zero h)
  get_or-new_runs (k ∷ ks) i zero d h = λ n. record { state = Ready; core = M.fresh (sym (add-zero i) n); began = 0; late = 0 }
  get_or-new_runs (k ∷ ks) i (suc j) d h =
      get_or-new_runs ks (suc i) j d (le_of_suc-le-suc h) ∙ (λ n. record { state = Ready; core = M.fresh ((suc-add i j ∙ sym (add-suc i j)) n); began = 0; late = 0 })

module _ {C : Type 0} (M : Machine C) (ks : List Task) (t : ℕ) where
  pub length-looked : (rs : List (Run C)) (j : ℕ) → length (looked M ks j t rs) ≡ length rs
  unfolding looked
  length-looked [] j = refl
  length-looked (r ∷ rs) j = ap suc (length-looked rs (suc j))

  pub get_or-looked :
      (rs : List (Run C)) (j i : ℕ) (d : Run C) → i < length rs
      → get_or (looked M ks j t rs) i d ≡ checked (get_or ks (j + i) no_task) t (woken M (get_or ks (j + i) no_task) (j + i) t (get_or rs i d))
  unfolding looked
  get_or-looked [] j i d h = absurd (not-suc-le-zero h)
  get_or-looked (r ∷ rs) j zero d h = ap (λ n. checked (get_or ks n no_task) t (woken M (get_or ks n no_task) n t r)) (sym (add-zero j))
  get_or-looked (r ∷ rs) j (suc i) d h =
      get_or-looked rs (suc j) i d (le_of_suc-le-suc h)
      ∙ ap (λ n. checked (get_or ks n no_task) t (woken M (get_or ks n no_task) n t (get_or rs i d))) (suc-add j i ∙ sym (add-suc j i))

-- ---- one task after the other

-- The tasks are xs at first; those before place i are then as ls says, the others as they were.
abbrev pub Done : List (Run Core) → List Running → ℕ → List Running → Type 0
Done ls xs i ys = (map task_of ys ≡ map task_of xs) × (map run_in ys ≡ take i ls ++ drop i (map run_in xs))

module _ (ls : List (Run Core)) (xs ys : List Running) (i : ℕ) (many : length ls ≡ length xs) (done : Done ls xs i ys) where
  as_many : length ys ≡ length xs
  as_many = sym (length-map ys task_of) ∙ ap length done.0 ∙ length-map xs task_of

  all_many : length ls ≡ length (map run_in xs)
  all_many = many ∙ sym (length-map xs run_in)

  -- The task at hand is as at first.
  pub plan_was : (r : Running) → i < length ys → get_or (map task_of xs) i no_task ≡ task_of (get_or ys i r)
  plan_was r h = ap (λ zs. get_or zs i no_task) (sym done.0) ∙ get_or-map task_of ys i r no_task h

  pub run_was : (r : Running) → i < length ys → get_or (map run_in xs) i (run_in r) ≡ run_in (get_or ys i r)
  run_was r h =
      sym (get_or_renewed ls (map run_in xs) i (run_in r) all_many (omega (arith, as_many, length-map xs run_in)))
      ∙ ap (λ zs. get_or zs i (run_in r)) (sym done.1)
      ∙ get_or-map run_in ys i r (run_in r) h

  pub done_more : (r : Running) (p : Progress) → i < length ys → get_or ls i (run_in r) ≡ run_of p → Done ls xs (i + 1) (set ys i (record { plan = (get_or ys i r).plan; progress = p }))
  done_more r p h e = (
    map-set_same task_of ys i _ r refl ∙ done.0,
    map-set run_in ys i _ ∙ ap (λ zs. set zs i (run_of p)) done.1 ∙ renewed_more ls (map run_in xs) i (run_of p) (run_in r) all_many (omega (arith, as_many, length-map xs run_in)) e,
  )

  pub done_all : length ys ≤ i → map run_in (refill (length xs) xs ys) ≡ ls
  done_all h =
      ap (map run_in) (ap (λ zs. take (length xs) (ys ++ zs)) (drop_all (length ys) xs (omega (arith, as_many))) ∙ ap (take (length xs)) (append-nil ys) ∙ take_all (length xs) ys (omega (arith, as_many)))
      ∙ done.1
      ∙ renewed_all ls (map run_in xs) i all_many (omega (arith, as_many, length-map xs run_in))

module _ {C : Type 0} (ks : List Task) where
  pub first_none : (rs : List (Run C)) (i : ℕ) → length rs ≤ i → None ≡ first_ready ks i (drop i rs)
  unfolding first_ready
  first_none rs i h = sym (ap (first_ready ks i) (drop_all i rs h))

  pub first_more :
      (rs : List (Run C)) (i : ℕ) (d : Run C) → i < length rs
      → first_ready ks i (drop i rs) ≡ better ks i (is_ready (get_or rs i d).state) (first_ready ks (i + 1) (drop (i + 1) rs))
  unfolding first_ready
  first_more rs i d h =
      at_drop_more (first_ready ks i) rs i d h
      ∙ ap (λ n. better ks i (is_ready (get_or rs i d).state) (first_ready ks n (drop (i + 1) rs))) (sym (add-one i))
