-- The records of a table, part by part, after a write into one of them.
use Rattle.std.proofs.Common.{◌≡◌, ℕ, zero, suc, ◌+◌, ◌*◌, ◌<◌, ◌≤◌, true, false, cond, eqb, ◌⊎◌, List, [], ◌∷◌, map, length, get_or, set, sym, refl, ap, ◌∙◌, inl, inr, ⊎_elim, arith}
use Rattle.std.specs.List.{range_with_len}
use Rattle.std.proofs.lemmas.List.FromFn.{fill_by_all, length-map-range_with_len, get_or-map-range_with_len}
use Rattle.std.proofs.lemmas.Bool.{cases_order, cases_eq, cases_Bool, eqb-true, ne_eqb, cond-false}
use Rattle.octets.specs.Bytes.{at}
use Rattle.cpu.specs.Core.{Core}
use Rattle.model.specs.declared.plan.State.TheVariants.{Stopped}
use Rattle.model.specs.declared.plan.Task.{Task}
use Rattle.model.specs.World.{Run}
use Rattle.model.specs.Tick.{update}
use Rattle.tasks.specs.Records.{core_at, run_at, task_at, runs_in, tasks_in, state_in, late_in, Others}
use Rattle.tasks.proofs.Written.{map_same}
use Rattle.tasks.proofs.Elsewhere.{Outside}

-- A core, a task and a plan by their parts.
pub core_is :
    (t : List ℕ) (j pc : ℕ) (x : List ℕ) → at 4 t (256 * j + 16) ≡ pc → 0 ∷ map (λ r. at 4 t (256 * j + 128 + 4 * r)) (range_with_len 1 31) ≡ x
    → core_at t j ≡ record { pc = pc; x = x }
unfolding core_at
core_is t j pc x p q = λ k. record { pc = p k; x = q k }

pub core_same :
    (a b : List ℕ) (j : ℕ) → at 4 b (256 * j + 16) ≡ at 4 a (256 * j + 16)
    → ((r : ℕ) → 1 ≤ r → r < 32 → at 4 b (256 * j + 128 + 4 * r) ≡ at 4 a (256 * j + 128 + 4 * r)) → core_at b j ≡ core_at a j
unfolding core_at
core_same a b j p q = core_is b j _ _ p (ap (λ xs. 0 ∷ xs) (map_same 31 _ _ 1 (λ r l u. q r l (omega arith))))

pub run_is :
    (t : List ℕ) (j code late began : ℕ) (core : Core) → at 1 t (256 * j) ≡ code → at 1 t (256 * j + 1) ≡ late → at 8 t (256 * j + 8) ≡ began → core_at t j ≡ core
    → run_at t j ≡ record { state = state_in code; core = core; began = began; late = late_in code late }
unfolding run_at
run_is t j code late began core p q r s = λ k. record { state = state_in (p k); core = s k; began = r k; late = late_in (p k) (q k) }

pub run_same :
    (a b : List ℕ) (j : ℕ) → at 1 b (256 * j) ≡ at 1 a (256 * j) → at 1 b (256 * j + 1) ≡ at 1 a (256 * j + 1) → at 8 b (256 * j + 8) ≡ at 8 a (256 * j + 8) → core_at b j ≡ core_at a j
    → run_at b j ≡ run_at a j
unfolding run_at
run_same a b j p q r s = run_is b j _ _ _ _ p q r s

pub task_is :
    (t : List ℕ) (j : ℕ) (k : Task) → at 1 t (256 * j + 2) ≡ k.priority → at 4 t (256 * j + 20) ≡ k.period → at 4 t (256 * j + 24) ≡ k.deadline → at 1 t (256 * j + 3) ≡ k.lates
    → task_at t j ≡ k
unfolding task_at
task_is t j k p q r s = λ i. record { priority = p i; period = q i; deadline = r i; lates = s i }

pub task_same :
    (a b : List ℕ) (j : ℕ) → at 1 b (256 * j + 2) ≡ at 1 a (256 * j + 2) → at 4 b (256 * j + 20) ≡ at 4 a (256 * j + 20) → at 4 b (256 * j + 24) ≡ at 4 a (256 * j + 24) → at 1 b (256 * j + 3) ≡ at 1 a (256 * j + 3)
    → task_at b j ≡ task_at a j
unfolding task_at
task_same a b j p q r s = task_is b j (task_at a j) p q r s

-- A write that lies outside of a record leaves it.
module _ (from to : ℕ) (a b : List ℕ) (o : Outside from to a b) (j : ℕ) (apart : (256 * j + 256 ≤ from) ⊎ (to ≤ 256 * j)) where
  part_left : (n k : ℕ) → 256 * j ≤ k → k + n ≤ 256 * j + 256 → at n b k ≡ at n a k
  part_left n k l u = o.same n k (⊎_elim (λ (p : 256 * j + 256 ≤ from). inl (omega arith)) (λ (p : to ≤ 256 * j). inr (omega arith)) apart)

  pub run_left : run_at b j ≡ run_at a j
  run_left =
      run_same a b j (part_left 1 (256 * j) (omega arith) (omega arith)) (part_left 1 (256 * j + 1) (omega arith) (omega arith)) (part_left 8 (256 * j + 8) (omega arith) (omega arith))
      (core_same a b j (part_left 4 (256 * j + 16) (omega arith) (omega arith)) (λ r l u. part_left 4 (256 * j + 128 + 4 * r) (omega arith) (omega arith)))

  pub task_left : task_at b j ≡ task_at a j
  task_left =
      task_same a b j (part_left 1 (256 * j + 2) (omega arith) (omega arith)) (part_left 4 (256 * j + 20) (omega arith) (omega arith)) (part_left 4 (256 * j + 24) (omega arith) (omega arith))
      (part_left 1 (256 * j + 3) (omega arith) (omega arith))

-- A write within a record leaves the others.
apart_from : (i j from to : ℕ) → (j ≡ i → ⊥) → 256 * i ≤ from → to ≤ 256 * i + 256 → (256 * j + 256 ≤ from) ⊎ (to ≤ 256 * j)
apart_from i j from to ne l u =
    ⊎_elim (λ (e : i ≡ j). absurd (ne (sym e))) (⊎_elim (λ (h : i < j). inr (omega arith)) (λ (h : j < i). inl (omega arith))) (cases_order i j)

pub others_within : (i from to : ℕ) (a b : List ℕ) → 256 * i ≤ from → to ≤ 256 * i + 256 → Outside from to a b → Others i a b
others_within i from to a b l u o =
    record {
      run = λ j ne h. run_left from to a b o j (apart_from i j from to ne l u);
      plan = λ j ne h. task_left from to a b o j (apart_from i j from to ne l u);
    }

pub others_then : {i : ℕ} {a b c : List ℕ} → Others i a b → Others i b c → Others i a c
others_then p q = record { run = λ j ne h. q.run j ne h ∙ p.run j ne h; plan = λ j ne h. q.plan j ne h ∙ p.plan j ne h }

pub others_none : (i : ℕ) (a : List ℕ) → Others i a a
others_none i a = record { run = λ j ne h. refl; plan = λ j ne h. refl }

-- A state by its code.
pub state_stopped : (c : ℕ) → (c ≡ 0 → ⊥) → (c ≡ 1 → ⊥) → Stopped ≡ state_in c
unfolding state_in
state_stopped c p q = sym (cond-false _ _ _ (ne_eqb c 0 p) ∙ cond-false _ _ _ (ne_eqb c 1 q))

-- How often it was late, where it is not stopped.
pub late_going : (c n : ℕ) → (state_in c ≡ Stopped → ⊥) → n ≡ late_in c n
unfolding late_in
late_going c n h =
    ⊎_elim (λ (p : eqb c 3 ≡ true). absurd (h (sym (state_stopped c (λ e. omega (arith, eqb-true c 3 p)) (λ e. omega (arith, eqb-true c 3 p))))))
    (λ (p : eqb c 3 ≡ false). sym (ap (λ b. n + cond b 1 0) p ∙ omega arith))
    (cases_Bool (eqb c 3))

-- The registers in their places.
pub registers_read : (x : List ℕ) (f : ℕ → ℕ) → length x ≡ 32 → ((k : ℕ) → k < 32 → get_or x k 0 ≡ f k) → set x 0 0 ≡ 0 ∷ map f (range_with_len 1 31)
registers_read x f e h = ap (λ z. set z 0 0) (fill_by_all f x 32 0 e h)

pub registers_written : (x : List ℕ) (f : ℕ → ℕ) → length x ≡ 32 → get_or x 0 0 ≡ 0 → ((k : ℕ) → k < 32 → f k ≡ get_or x k 0) → 0 ∷ map f (range_with_len 1 31) ≡ x
registers_written x f e z h =
    sym (fill_by_all (λ k. get_or x k 0) x 32 0 e (λ k l. refl) ∙ ap (λ y. y ∷ map (λ k. get_or x k 0) (range_with_len 1 31)) z ∙ ap (λ ys. 0 ∷ ys) (map_same 31 _ _ 1 (λ k l u. sym (h k (omega arith)))))

-- The lists of tasks where one has changed.
pub one_run : (t : List ℕ) → runs_in 1 t ≡ run_at t 0 ∷ []
unfolding runs_in
one_run t = refl

pub one_task : (t : List ℕ) → tasks_in 1 t ≡ task_at t 0 ∷ []
unfolding tasks_in
one_task t = refl

map-update :
    {X : Type 0} (n : ℕ) (f g : ℕ → X) (h : X → X) (a i : ℕ) → i < n → g (a + i) ≡ h (f (a + i)) → ((j : ℕ) → (j ≡ a + i → ⊥) → j < a + n → g j ≡ f j)
    → map g (range_with_len a n) ≡ update (map f (range_with_len a n)) i h
unfolding update
map-update zero f g h a i l e o = absurd (omega arith)
map-update (suc n) f g h a zero l e o =
    let z : a + 0 ≡ a = omega arith in
    ap (λ x. x ∷ map g (range_with_len (a + 1) n)) (ap g (sym z) ∙ e ∙ ap (λ m. h (f m)) z)
    ∙ ap (λ xs. h (f a) ∷ xs) (map_same n g f (a + 1) (λ k low up. o k (λ q. omega arith) (omega arith)))
map-update (suc n) f g h a (suc i) l e o =
    let z : a + suc i ≡ a + 1 + i = omega arith in
    ap (λ x. x ∷ map g (range_with_len (a + 1) n)) (o a (λ q. omega arith) (omega arith))
    ∙ ap (λ xs. f a ∷ xs) (map-update n f g h (a + 1) i (omega arith) (ap g (sym z) ∙ e ∙ ap (λ m. h (f m)) z) (λ j ne u. o j (λ q. ne (q ∙ z)) (omega arith)))

pub runs_update :
    (n i : ℕ) (a b : List ℕ) (f : Run Core → Run Core) → n ≤ 16 → i < n → Others i a b → run_at b i ≡ f (run_at a i)
    → runs_in n b ≡ update (runs_in n a) i f
unfolding runs_in
runs_update n i a b f most l o e =
    let z : 0 + i ≡ i = omega arith in
    map-update n (run_at a) (run_at b) f 0 i l (ap (run_at b) z ∙ e ∙ ap (λ m. f (run_at a m)) (sym z)) (λ j ne u. o.run j (λ q. ne (q ∙ sym z)) (omega arith))

pub tasks_same : (n i : ℕ) (a b : List ℕ) → n ≤ 16 → Others i a b → task_at b i ≡ task_at a i → tasks_in n b ≡ tasks_in n a
unfolding tasks_in
tasks_same n i a b most o e =
    map_same n (task_at b) (task_at a) 0
    (λ j l u. ⊎_elim (λ (q : j ≡ i). ap (task_at b) q ∙ e ∙ ap (task_at a) (sym q)) (λ (ne : j ≡ i → ⊥). o.plan j ne (omega arith)) (cases_eq j i))

pub length_runs : (n : ℕ) (t : List ℕ) → length (runs_in n t) ≡ n
unfolding runs_in
length_runs n t = length-map-range_with_len (run_at t) 0 n

pub length-tasks : (n : ℕ) (t : List ℕ) → length (tasks_in n t) ≡ n
unfolding tasks_in
length-tasks n t = length-map-range_with_len (task_at t) 0 n

pub get_or-runs : (n i : ℕ) (t : List ℕ) (d : Run Core) → i < n → get_or (runs_in n t) i d ≡ run_at t i
unfolding runs_in
get_or-runs n i t d l = get_or-map-range_with_len (run_at t) 0 n i i d l (omega arith)

pub get_or-tasks : (n i : ℕ) (t : List ℕ) (d : Task) → i < n → get_or (tasks_in n t) i d ≡ task_at t i
unfolding tasks_in
get_or-tasks n i t d l = get_or-map-range_with_len (task_at t) 0 n i i d l (omega arith)
