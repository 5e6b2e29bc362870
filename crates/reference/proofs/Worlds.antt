-- The world that the program's state stands for, when one of its partitions changes.
use Rattle.std.proofs.Common.{◌≡◌, ℕ, zero, suc, ◌+◌, ◌≤◌, Bool, true, false, cond, eqb, ltb, ◌≢◌, List, [], ◌∷◌, ◌++◌, map, length, get_or, set, Some, None, Option, sym, refl, ap, ◌∙◌, subst, add-zero, add-suc, suc-add, zero-add, arith}
use Rattle.std.specs.List.{slice_get}
use Rattle.std.proofs.lemmas.List.{map-set, set_past, get_or_past, append-nil}
use Rattle.std.proofs.lemmas.Bool.{cond-true, cond-false, ne_eqb, eq-eqb}
use Rattle.cpu.specs.Core.{Core}
use Rattle.cpu.specs.Rv32i.{rv32i}
use Rattle.model.specs.declared.plan.Arrival.{Arrival}
use Rattle.model.specs.declared.plan.Window.{Window}
use Rattle.model.specs.World.{Part, World, Sent, no_part, part, messages}
use Rattle.model.specs.Tick.{hearing, with_heard, with_tasks, most_unheard, came, work, applied, part_tick, looked, first_ready, instruction, changed, seen}
use Rattle.reference.specs.declared.part.Partition.{Partition}
use Rattle.reference.specs.declared.queue.Queue.{Queue}
use Rattle.reference.specs.Parts.{runs_of, tasks_of, heard_of, part_of}
use Rattle.reference.specs.Own.{Did, said, plans_of, channels_of, seen_of}
use Rattle.reference.specs.View.{plan_in, parts_of, world_of, showing}
use Rattle.reference.proofs.Nths.{set_same, get_or-map_some}

-- ---- the parts

pub length-parts_of : (xs : List Partition) (m : ℕ → List ℕ) (s : ℕ → List (ℕ × ℕ)) (i : ℕ) → length (parts_of xs m s i) ≡ length xs
unfolding parts_of
length-parts_of [] m s i = refl
length-parts_of (x ∷ xs) m s i = ap suc (length-parts_of xs m s (suc i))

get_or-parts_of :
    (xs : List Partition) (m : ℕ → List ℕ) (s : ℕ → List (ℕ × ℕ)) (i q : ℕ) (x : Partition) → slice_get xs q ≡ Some x
    → get_or (parts_of xs m s i) q no_part ≡ part_of x (m (i + q)) (s (i + q))
unfolding parts_of
get_or-parts_of [] m s i q x e = let z : ◌≡◌ {A = ℕ} 0 1 = cc in absurd (omega arith)
get_or-parts_of (y ∷ ys) m s i zero x e =
    let same : y ≡ x = cc in ap (λ z. part_of z (m i) (s i)) same ∙ ap (λ n. part_of x (m n) (s n)) (sym (add-zero i))
get_or-parts_of (y ∷ ys) m s i (suc q) x e = get_or-parts_of ys m s (suc i) q x e ∙ ap (λ n. part_of x (m n) (s n)) (suc-add i q ∙ sym (add-suc i q))

pub parts_same :
    (xs : List Partition) (m n : ℕ → List ℕ) (s r : ℕ → List (ℕ × ℕ)) (i : ℕ) → ((j : ℕ) → i ≤ j → n j ≡ m j) → ((j : ℕ) → i ≤ j → r j ≡ s j)
    → parts_of xs n r i ≡ parts_of xs m s i
unfolding parts_of
parts_same [] m n s r i em es = refl
parts_same (x ∷ xs) m n s r i em es =
    (λ k. part_of x (em i (omega arith) k) (es i (omega arith) k) ∷ parts_same xs m n s r (suc i) (λ j h. em j (omega arith)) (λ j h. es j (omega arith)) k)

-- Partition q, counted from i, has become y, with its memory and what it has shown.
parts_set :
    (xs : List Partition) (m n : ℕ → List ℕ) (s r : ℕ → List (ℕ × ℕ)) (i q : ℕ) (y : Partition) → ((j : ℕ) → j ≢ i + q → n j ≡ m j) → ((j : ℕ) → j ≢ i + q → r j ≡ s j)
    → parts_of (set xs q y) n r i ≡ set (parts_of xs m s i) q (part_of y (n (i + q)) (r (i + q)))
unfolding parts_of
parts_set [] m n s r i q y em es = refl
parts_set (x ∷ xs) m n s r i zero y em es =
    ap (λ k. part_of y (n k) (r k) ∷ parts_of xs n r (suc i)) (sym (add-zero i))
    ∙ ap (λ zs. part_of y (n (i + 0)) (r (i + 0)) ∷ zs) (parts_same xs m n s r (suc i) (λ j h. em j (omega (arith, add-zero i))) (λ j h. es j (omega (arith, add-zero i))))
parts_set (x ∷ xs) m n s r i (suc q) y em es =
    let here : i ≢ i + suc q = omega arith in
    let over : suc i + q ≡ i + suc q = omega arith in
    (λ k. part_of x (em i here k) (es i here k) ∷ parts_of (set xs q y) n r (suc i))
    ∙ ap (λ zs. part_of x (m i) (s i) ∷ zs)
    (parts_set xs m n s r (suc i) q y (λ j h. em j (λ e. h (e ∙ sym over))) (λ j h. es j (λ e. h (e ∙ sym over)))
    ∙ ap (λ k. set (parts_of xs m s (suc i)) q (part_of y (n k) (r k))) over)

-- The same, counted from 0.
module _ (xs : List Partition) (m n : ℕ → List ℕ) (s r : ℕ → List (ℕ × ℕ)) (q : ℕ) where
  pub part_at : (x : Partition) → slice_get xs q ≡ Some x → get_or (parts_of xs m s 0) q no_part ≡ part_of x (m q) (s q)
  part_at x h = get_or-parts_of xs m s 0 q x h ∙ ap (λ k. part_of x (m k) (s k)) (zero-add q)

  pub part_put :
      (y : Partition) → ((j : ℕ) → j ≢ q → n j ≡ m j) → ((j : ℕ) → j ≢ q → r j ≡ s j)
      → parts_of (set xs q y) n r 0 ≡ set (parts_of xs m s 0) q (part_of y (n q) (r q))
  part_put y em es =
      parts_set xs m n s r 0 q y (λ j h. em j (λ e. h (e ∙ sym (zero-add q)))) (λ j h. es j (λ e. h (e ∙ sym (zero-add q))))
      ∙ ap (λ k. set (parts_of xs m s 0) q (part_of y (n k) (r k))) (zero-add q)

-- ---- bytes come

-- The partition with a byte more to hear.
hearing_is :
    (x y : Partition) (m : List ℕ) (s : List (ℕ × ℕ)) (b : ℕ) → runs_of y ≡ runs_of x → heard_of y ≡ cond (ltb (length (heard_of x)) most_unheard) (heard_of x ++ b ∷ []) (heard_of x)
    → part_of y m s ≡ hearing b (part_of x m s)
unfolding hearing with_heard part_of
hearing_is x y m s b e h = (λ j. record { memory = m; tasks = e j; heard = h j; shown = s }) ∙ by (ltb (length (heard_of x)) most_unheard)
  where
    by : (t : Bool)
        → ◌≡◌ {A = Part Core} (record { memory = m; tasks = runs_of x; heard = cond t (heard_of x ++ b ∷ []) (heard_of x); shown = s })
        (cond t (record { memory = m; tasks = runs_of x; heard = heard_of x ++ b ∷ []; shown = s }) (record { memory = m; tasks = runs_of x; heard = heard_of x; shown = s }))
    by true = refl
    by false = refl

module _ (t : ℕ) (m : ℕ → List ℕ) (cs : List (List Sent)) (s : ℕ → List (ℕ × ℕ)) where
  -- The world with these partitions.
  abbrev pub at : List Partition → World Core
  at xs = record { time = t; parts = parts_of xs m s 0; channels = cs }

  pub came_there : (xs : List Partition) (a : Arrival) (rest : List Arrival) (x y : Partition) → slice_get xs a.partition ≡ Some x → runs_of y ≡ runs_of x
      → heard_of y ≡ cond (ltb (length (heard_of x)) most_unheard) (heard_of x ++ a.byte ∷ []) (heard_of x) → came rest (at (set xs a.partition y)) ≡ came (a ∷ rest) (at xs)
  unfolding came part
  came_there xs a rest x y h e f =
      ap (λ ps. came rest (record { time = t; parts = ps; channels = cs }))
      (part_put xs m m s s a.partition y (λ j g. refl) (λ j g. refl)
      ∙ ap (set (parts_of xs m s 0) a.partition) (hearing_is x y (m a.partition) (s a.partition) a.byte e f ∙ sym (ap (hearing a.byte) (part_at xs m m s s a.partition x h))))

  pub came_nowhere : (xs : List Partition) (a : Arrival) (rest : List Arrival) → length xs ≤ a.partition → came rest (at xs) ≡ came (a ∷ rest) (at xs)
  unfolding came
  came_nowhere xs a rest h =
      ap (λ ps. came rest (record { time = t; parts = ps; channels = cs })) (sym (set_past (parts_of xs m s 0) a.partition _ (omega (arith, length-parts_of xs m s 0))))

-- ---- a partition has its tick

shown_more : (s : ℕ → List (ℕ × ℕ)) (q : ℕ) (bytes : List (ℕ × ℕ)) → showing s q bytes q ≡ s q ++ bytes
unfolding showing
shown_more s q bytes = ap (λ z. s q ++ z) (cond-true (eqb q q) bytes [] (eq-eqb q q refl))

shown_other : (s : ℕ → List (ℕ × ℕ)) (q : ℕ) (bytes : List (ℕ × ℕ)) (j : ℕ) → j ≢ q → showing s q bytes j ≡ s j
unfolding showing
shown_other s q bytes j h = ap (λ z. s j ++ z) (cond-false (eqb j q) bytes [] (ne_eqb j q h)) ∙ append-nil (s j)

pub shown_none : (s : ℕ → List (ℕ × ℕ)) (q j : ℕ) → showing s q [] j ≡ s j
unfolding showing
shown_none s q j = ap (λ z. s j ++ z) (either (eqb j q)) ∙ append-nil (s j)
  where
    either : (b : Bool) → ◌≡◌ {A = List (ℕ × ℕ)} (cond b [] []) []
    either true = refl
    either false = refl

module _ (system t : ℕ) (ws : List Window) (xs : List Partition) (ms : List (List ℕ)) (cs : List Queue) (s : ℕ → List (ℕ × ℕ)) (q : ℕ) where
  abbrev memory : ℕ → List ℕ
  memory j = get_or ms j []

  -- There is no such partition.
  pub worked_nowhere : length xs ≤ q → world_of t xs ms cs (showing s q (said t None)) ≡ work rv32i (plan_in system ws xs cs) (world_of t xs ms cs s) (Some q)
  unfolding world_of work applied part part_tick with_tasks looked first_ready instruction changed said plan_in
  worked_nowhere h =
      let out : length (parts_of xs memory s 0) ≤ q = omega (arith, length-parts_of xs memory s 0) in
      ap (λ ps. record { time = t; parts = ps; channels = channels_of cs })
      (parts_same xs memory memory s (showing s q []) 0 (λ j g. refl) (λ j g. shown_none s q j) ∙ sym (set_past (parts_of xs memory s 0) q no_part out))
      ∙ sym
      (ap (λ z. applied (world_of t xs ms cs s) q (part_tick rv32i q t (seen (plans_of cs) q (world_of t xs ms cs s)) (get_or (map tasks_of xs) q []) z))
      (get_or_past (parts_of xs memory s 0) q no_part out))

  pub worked_there :
      (ns : List (List ℕ)) (ds : List Queue) (x y : Partition) (r : Option ℕ) → slice_get xs q ≡ Some x
      → Did (λ z. part_tick rv32i q t (seen_of cs q) (tasks_of x) (part_of x (get_or ms q []) z)) t y (get_or ns q []) cs ds r → ((j : ℕ) → j ≢ q → get_or ns j [] ≡ get_or ms j [])
      → world_of t (set xs q y) ns ds (showing s q (said t r)) ≡ work rv32i (plan_in system ws xs cs) (world_of t xs ms cs s) (Some q)
  unfolding world_of work applied part plan_in seen_of seen messages
  worked_there ns ds x y r h d e =
      (λ j.
      record {
        time = t;
        parts =
            (part_put xs memory (λ k. get_or ns k []) s (showing s q (said t r)) q y e (λ k g. shown_other s q (said t r) k g)
            ∙ ap (λ z. set (parts_of xs memory s 0) q (part_of y (get_or ns q []) z)) (shown_more s q (said t r))
            ∙ ap (set (parts_of xs memory s 0) q) (d.part (s q))) j;
        channels = d.change (s q) j;
      })
      ∙ sym
      (ap (λ ks. applied (world_of t xs ms cs s) q (part_tick rv32i q t (seen (plans_of cs) q (world_of t xs ms cs s)) ks (get_or (parts_of xs memory s 0) q no_part))) (get_or-map_some tasks_of xs q x [] h)
      ∙ ap (λ z. applied (world_of t xs ms cs s) q (part_tick rv32i q t (seen (plans_of cs) q (world_of t xs ms cs s)) (tasks_of x) z)) (part_at xs memory memory s s q x h))

  -- The same, with its memory before and after given apart.
  pub worked_with :
      (ns : List (List ℕ)) (ds : List Queue) (x y : Partition) (r : Option ℕ) (before behind : List ℕ) → slice_get xs q ≡ Some x → get_or ms q [] ≡ before → get_or ns q [] ≡ behind
      → Did (λ z. part_tick rv32i q t (seen_of cs q) (tasks_of x) (part_of x before z)) t y behind cs ds r → ((j : ℕ) → j ≢ q → get_or ns j [] ≡ get_or ms j [])
      → world_of t (set xs q y) ns ds (showing s q (said t r)) ≡ work rv32i (plan_in system ws xs cs) (world_of t xs ms cs s) (Some q)
  worked_with ns ds x y r before behind h eb ea d e =
      worked_there ns ds x y r h
      (subst (λ z. Did (λ w. part_tick rv32i q t (seen_of cs q) (tasks_of x) (part_of x z w)) t y (get_or ns q []) cs ds r) (sym eb)
      (subst (λ z. Did (λ w. part_tick rv32i q t (seen_of cs q) (tasks_of x) (part_of x before w)) t y z cs ds r) (sym ea) d))
      e

-- The tasks' plan stays.
pub plan_kept : (xs : List Partition) (q : ℕ) (x y : Partition) → slice_get xs q ≡ Some x → tasks_of y ≡ tasks_of x → map tasks_of (set xs q y) ≡ map tasks_of xs
plan_kept xs q x y h e = map-set tasks_of xs q y ∙ ap (set (map tasks_of xs) q) e ∙ set_same (map tasks_of xs) q (tasks_of x) [] (get_or-map_some tasks_of xs q x [] h)

-- Nothing shown is nothing more.
pub showing_none : (s : ℕ → List (ℕ × ℕ)) (q t : ℕ) → showing s q (said t None) ≡ s
unfolding said
showing_none s q t = λ i j. shown_none s q j i
