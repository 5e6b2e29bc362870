-- Own ticks in a row: one after the other, ticks in which nobody is ready, and ticks of one task that goes first.
use Rattle.std.proofs.Common.{◌≡◌, ℕ, zero, suc, ◌+◌, ◌<◌, List, [], ◌∷◌, length, drop, Some, None, sym, refl, ap, ◌∙◌, add-zero, suc-add, zero-add, arith}
use Rattle.cpu.specs.Core.{Core}
use Rattle.cpu.specs.Rv32i.{rv32i, act}
use Rattle.model.specs.declared.plan.Task.{Task}
use Rattle.model.specs.World.{Run, Part}
use Rattle.model.specs.Tick.{part_tick, looked, first_ready, with_tasks, update, goes_on, acted, instruction, does}
use Rattle.partition.specs.Stretch.{none_seen, part_ticks, looked_ticks, Busy}

pub part_ticks_add :
    (q : ℕ) (ks : List Task) (t m n : ℕ) (x : Part Core) → part_ticks q ks t (m + n) x ≡ part_ticks q ks (t + m) n (part_ticks q ks t m x)
unfolding part_ticks
part_ticks_add q ks t zero n x =
    ap (λ k. part_ticks q ks t k x) (zero-add n) ∙ ap (λ u. part_ticks q ks u n x) (sym (add-zero t))
part_ticks_add q ks t (suc m) n x =
    let e : suc t + m ≡ t + suc m = omega arith in
    ap (λ k. part_ticks q ks t k x) (suc-add m n)
    ∙ part_ticks_add q ks (suc t) m n (part_tick rv32i q t none_seen ks x).part
    ∙ ap (λ u. part_ticks q ks u n (part_ticks q ks (suc t) m (part_tick rv32i q t none_seen ks x).part)) e

-- One tick more.
pub part_ticks_more :
    (q : ℕ) (ks : List Task) (t n : ℕ) (x : Part Core) → part_ticks q ks t (n + 1) x ≡ (part_tick rv32i q (t + n) none_seen ks (part_ticks q ks t n x)).part
unfolding part_ticks
part_ticks_more q ks t n x = part_ticks_add q ks t n 1 x

-- A tick, where this is what looking at the tasks gives.
tick_is :
    (q : ℕ) (ks : List Task) (t : ℕ) (x : Part Core) (l : List (Run Core)) → looked rv32i ks 0 t x.tasks ≡ l →
    part_tick rv32i q t none_seen ks x ≡ instruction rv32i q t none_seen (with_tasks x l) (first_ready ks 0 l)
unfolding part_tick
tick_is q ks t x l e = ap (λ l. instruction rv32i q t none_seen (with_tasks x l) (first_ready ks 0 l)) e

-- An instruction where nobody is ready.
nobody : (q : ℕ) (ks : List Task) (t : ℕ) (x : Part Core) → first_ready ks 0 x.tasks ≡ None → (instruction rv32i q t none_seen x (first_ready ks 0 x.tasks)).part ≡ x
unfolding instruction
nobody q ks t x none = ap (λ o. (instruction rv32i q t none_seen x o).part) none

with_own : (x : Part Core) → with_tasks x x.tasks ≡ x
unfolding with_tasks
with_own x = refl

same_tick :
    (q : ℕ) (ks : List Task) (t : ℕ) (x : Part Core) → looked rv32i ks 0 t x.tasks ≡ x.tasks →
    part_tick rv32i q t none_seen ks x ≡ instruction rv32i q t none_seen x (first_ready ks 0 x.tasks)
same_tick q ks t x e =
    tick_is q ks t x x.tasks e ∙ ap (λ y. instruction rv32i q t none_seen y (first_ready ks 0 x.tasks)) (with_own x)

-- While looking changes nothing and nobody is ready, nothing changes.
pub idle_ticks :
    (q : ℕ) (ks : List Task) (t n : ℕ) (x : Part Core) → ((k : ℕ) → k < n → looked rv32i ks 0 (t + k) x.tasks ≡ x.tasks) →
    first_ready ks 0 x.tasks ≡ None → part_ticks q ks t n x ≡ x
unfolding part_ticks
idle_ticks q ks t zero x still none = refl
idle_ticks q ks t (suc n) x still none =
    ap (part_ticks q ks (suc t) n) (ap (λ s. s.part) (same_tick q ks t x same) ∙ nobody q ks t x none)
    ∙ idle_ticks q ks (suc t) n x (λ k h. let e : suc t + k ≡ t + suc k = omega arith in ap (λ u. looked rv32i ks 0 u x.tasks) e ∙ still (suc k) (omega arith)) none
  where
    same : looked rv32i ks 0 t x.tasks ≡ x.tasks
    same = ap (λ u. looked rv32i ks 0 u x.tasks) (sym (add-zero t)) ∙ still 0 (omega arith)

-- The first tick's look, and then the ticks.
pub look_first :
    (q : ℕ) (ks : List Task) (t n : ℕ) (x y : Part Core) → y ≡ with_tasks x (looked rv32i ks 0 t x.tasks) → 0 < n →
    part_ticks q ks t n x ≡ looked_ticks q ks t n y
unfolding part_ticks looked_ticks part_tick with_tasks
look_first q ks t zero x y e h = absurd (omega arith)
look_first q ks t (suc n) x y e h = ap (λ z. looked_ticks q ks t (suc n) z) (sym e)

-- Ticks in which nobody is ready, the first looked at.
pub idle_looked :
    (q : ℕ) (ks : List Task) (t n : ℕ) (x : Part Core) → ((k : ℕ) → k + 1 < n → looked rv32i ks 0 (t + 1 + k) x.tasks ≡ x.tasks) →
    first_ready ks 0 x.tasks ≡ None → looked_ticks q ks t n x ≡ x
unfolding looked_ticks
idle_looked q ks t zero x still none = refl
idle_looked q ks t (suc n) x still none =
    ap (part_ticks q ks (suc t) n) (nobody q ks t x none)
    ∙ idle_ticks q ks (suc t) n x (λ k h. let e : suc t + k ≡ t + 1 + k = omega arith in ap (λ u. looked rv32i ks 0 u x.tasks) e ∙ still k (omega arith)) none

-- The task that goes does its instruction.
does_goes :
    (q t : ℕ) (x : Part Core) (k i : ℕ) (rs : List (Run Core)) (c : Core) → i < length rs →
    does rv32i q t none_seen x k (drop i (update rs i (goes_on c))) ≡ acted q t none_seen x k (act c x.memory)
unfolding does update goes_on
does_goes q t x k i [] c h = absurd (omega arith)
does_goes q t x k zero (r ∷ rs) c h = refl
does_goes q t x k (suc i) (r ∷ rs) c h = does_goes q t x k i rs c (omega arith)

busy_goes :
    (q t : ℕ) (ks : List Task) (rs : List (Run Core)) (i : ℕ) (c : Core) (x : Part Core) → i < length rs → x.tasks ≡ update rs i (goes_on c) →
    first_ready ks 0 (update rs i (goes_on c)) ≡ Some i →
    instruction rv32i q t none_seen x (first_ready ks 0 x.tasks) ≡ acted q t none_seen x i (act c x.memory)
unfolding instruction
busy_goes q t ks rs i c x there e first =
    ap (instruction rv32i q t none_seen x) (ap (first_ready ks 0) e ∙ first)
    ∙ ap (λ l. does rv32i q t none_seen x i (drop i l)) e
    ∙ does_goes q t x i i rs c there

-- One tick more of a task that goes on.
pub busy_more :
    (q t : ℕ) (ks : List Task) (rs : List (Run Core)) (i n : ℕ) → Busy ks rs i t n → (k : ℕ) → k < n → (c : Core) (x y : Part Core) →
    looked_ticks q ks t k x ≡ y → y.tasks ≡ update rs i (goes_on c) →
    looked_ticks q ks t (k + 1) x ≡ (acted q (t + k) none_seen y i (act c y.memory)).part
unfolding looked_ticks part_ticks instruction
busy_more q t ks rs i n busy zero lt c x y e tasks =
    let z : t ≡ t + 0 = omega arith in
    ap (λ w. (instruction rv32i q t none_seen w (first_ready ks 0 w.tasks)).part) e
    ∙ ap (λ s. s.part) (busy_goes q t ks rs i c y busy.there tasks (busy.first c))
    ∙ ap (λ u. (acted q u none_seen y i (act c y.memory)).part) z
busy_more q t ks rs i n busy (suc k) lt c x y e tasks =
    let z : suc t + k ≡ t + suc k = omega arith in
    let m : suc k + 1 ≡ suc (k + 1) = omega arith in
    let same : looked rv32i ks 0 (t + suc k) y.tasks ≡ y.tasks = ap (looked rv32i ks 0 (t + suc k)) tasks ∙ busy.still c (suc k) (omega arith) lt ∙ sym tasks in
    ap (λ j. looked_ticks q ks t j x) m
    ∙ part_ticks_more q ks (suc t) k (instruction rv32i q t none_seen x (first_ready ks 0 x.tasks)).part
    ∙ ap (λ w. (part_tick rv32i q (suc t + k) none_seen ks w).part) e
    ∙ ap (λ u. (part_tick rv32i q u none_seen ks y).part) z
    ∙ ap (λ s. s.part) (same_tick q ks (t + suc k) y same)
    ∙ ap (λ s. s.part) (busy_goes q (t + suc k) ks rs i c y busy.there tasks (busy.first c))

pub update_update : {A : Type 0} (xs : List A) (i : ℕ) (f g : A → A) → update (update xs i f) i g ≡ update xs i (λ a. g (f a))
unfolding update
update_update [] i f g = refl
update_update (x ∷ xs) zero f g = refl
update_update (x ∷ xs) (suc i) f g = ap (λ ys. x ∷ ys) (update_update xs i f g)

pub length-update : {A : Type 0} (xs : List A) (i : ℕ) (f : A → A) → length (update xs i f) ≡ length xs
unfolding update
length-update [] i f = refl
length-update (x ∷ xs) zero f = refl
length-update (x ∷ xs) (suc i) f = ap suc (length-update xs i f)
