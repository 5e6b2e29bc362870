-- A block as bytes come to it, and as it is at the start.
use Rattle.std.proofs.Common.{◌≡◌, ℕ, ◌+◌, ◌≤◌, Bool, true, false, cond, ltb, List, [], ◌∷◌, ◌++◌, map, length, drop, Some, None, sym, refl, ap, ◌∙◌, arith}
use Rattle.std.specs.List.{range_with_len, slice_get}
use Rattle.std.proofs.lemmas.List.{append-nil, drop_all}
use Rattle.octets.specs.Bytes.{put}
use Rattle.cpu.specs.Core.{Core, fresh}
use Rattle.cpu.specs.Rv32i.{rv32i}
use Rattle.model.specs.declared.plan.Task.{Task}
use Rattle.model.specs.declared.plan.State.TheVariants.{Ready}
use Rattle.model.specs.World.{Run}
use Rattle.model.specs.Tick.{hearing, with_heard, new_runs}
use Rattle.memory.specs.Frames.{memory_of, frame}
use Rattle.tasks.specs.Records.{run_at, task_at, runs_in, tasks_in}
use Rattle.tasks.specs.Unheard.{heard_in}
use Rattle.partition.specs.Block.{count_of, over, runs_of, tasks_of, part_of, TableKept}
use Rattle.partition.proofs.Owns.{one_run, one_task}

-- The tasks stay with the table and their number.
pub runs_kept : (a b : List ℕ) → TableKept a b → runs_of b ≡ runs_of a
unfolding runs_of
runs_kept a b k = λ j. runs_in (k.count j) (k.table j)

pub tasks_kept : (a b : List ℕ) → TableKept a b → tasks_of b ≡ tasks_of a
unfolding tasks_of
tasks_kept a b k = λ j. tasks_in (k.count j) (k.table j)

by_room : (c : Bool) (b : List ℕ) (rs : List (Run Core)) (s : List (ℕ × ℕ)) (more less : List ℕ) → less ≡ heard_in (frame 3 b) →
    record { memory = memory_of b; tasks = rs; heard = cond c more less; shown = s } ≡ cond c (with_heard (over b rs s) more) (over b rs s)
unfolding over with_heard
by_room true b rs s more less e = refl
by_room false b rs s more less e = ap (λ h. record { memory = memory_of b; tasks = rs; heard = h; shown = s }) e

-- A byte came.
pub arrived :
    (a b : List ℕ) (byte : ℕ) (s : List (ℕ × ℕ)) → memory_of b ≡ memory_of a → TableKept a b →
    heard_in (frame 3 b) ≡ cond (ltb (length (heard_in (frame 3 a))) 1024) (heard_in (frame 3 a) ++ byte ∷ []) (heard_in (frame 3 a)) →
    part_of b s ≡ hearing byte (part_of a s)
unfolding part_of over hearing
arrived a b byte s m k h =
    (λ j. record { memory = m j; tasks = runs_kept a b k j; heard = h j; shown = s })
    ∙ by_room (ltb (length (heard_in (frame 3 a))) 1024) a (runs_of a) s (heard_in (frame 3 a) ++ byte ∷ []) (heard_in (frame 3 a)) refl

-- A write over the whole.
pub put_all : (xs ys : List ℕ) → length ys ≡ length xs → put xs 0 ys ≡ ys
unfolding put
put_all xs ys e =
    let n : 0 + length ys ≡ length xs = omega arith in
    ap (λ m. ys ++ drop m xs) n ∙ ap (λ zs. ys ++ zs) (drop_all (length xs) xs (omega arith)) ∙ append-nil ys

-- A list of at most one, by its first.
pub only_one : {A : Type 0} (xs : List A) (x : A) → length xs ≤ 1 → Some x ≡ slice_get xs 0 → xs ≡ x ∷ []
only_one [] x h e = let z : ◌≡◌ {A = ℕ} 0 1 = cc in absurd (omega arith)
only_one (y ∷ []) x h e = let s : x ≡ y = cc in ap (λ z. z ∷ []) (sym s)
only_one (y ∷ (z ∷ zs)) x h e = absurd (omega arith)

pub no_one : {A : Type 0} (xs : List A) → None ≡ slice_get xs 0 → xs ≡ []
no_one [] e = refl
no_one (y ∷ ys) e = let z : ◌≡◌ {A = ℕ} 0 1 = cc in absurd (omega arith)

-- A block with these parts.
pub part_at_start :
    (b m : List ℕ) (ks : List Task) → memory_of b ≡ m → heard_in (frame 3 b) ≡ [] → runs_of b ≡ new_runs rv32i 0 ks →
    part_of b [] ≡ record { memory = m; tasks = new_runs rv32i 0 ks; heard = []; shown = [] }
unfolding part_of over
part_at_start b m ks e h r = λ j. record { memory = e j; tasks = r j; heard = h j; shown = [] }

pub new_one :
    (b : List ℕ) (k : Task) (ks : List Task) → count_of b ≡ 1 → run_at (frame 2 b) 0 ≡ record { state = Ready; core = fresh 0; began = 0; late = 0 } → ks ≡ k ∷ [] →
    runs_of b ≡ new_runs rv32i 0 ks
unfolding new_runs
new_one b k ks one e is = one_run b one ∙ ap (λ r. r ∷ []) e ∙ ap (new_runs rv32i 0) (sym is)

pub plan_one : (b : List ℕ) (k : Task) (ks : List Task) → count_of b ≡ 1 → task_at (frame 2 b) 0 ≡ k → ks ≡ k ∷ [] → tasks_of b ≡ ks
plan_one b k ks one e is = one_task b one ∙ ap (λ r. r ∷ []) e ∙ sym is

pub new_none : (b : List ℕ) (ks : List Task) → count_of b ≡ 0 → ks ≡ [] → runs_of b ≡ new_runs rv32i 0 ks
unfolding new_runs runs_of runs_in
new_none b ks none is = ap (λ n. map (run_at (frame 2 b)) (range_with_len 0 n)) none ∙ ap (new_runs rv32i 0) (sym is)

pub plan_none : (b : List ℕ) (ks : List Task) → count_of b ≡ 0 → ks ≡ [] → tasks_of b ≡ ks
unfolding tasks_of tasks_in
plan_none b ks none is = ap (λ n. map (task_at (frame 2 b)) (range_with_len 0 n)) none ∙ sym is
