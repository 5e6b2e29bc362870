-- What the layout takes for proper is what is in bounds.
use Rattle.std.proofs.Common.{◌≡◌, ℕ, zero, suc, ◌/◌, ◌≤◌, List, [], ◌∷◌, map, length, sym, refl, ap, ◌∙◌, subst, arith}
use Rattle.std.specs.List.{AllByRecursion}
use Rattle.std.proofs.ByRecursion.{All-map}
use Rattle.codec.specs.Codec.{Codec, ProperEach, times}
use Rattle.model.specs.declared.plan.Window.{Window}
use Rattle.model.specs.declared.plan.Channel.{Channel}
use Rattle.model.specs.declared.plan.Task.{Task}
use Rattle.plan.specs.Layout.{Image, Part, window, channel, task, partition, memory, beside, image}
use Rattle.plan.specs.Bounds.{WindowIn, ChannelIn, TaskIn, TasksIn, MemoryIn, InBounds}
use Rattle.plan.proofs.Lawfulness.{length-proper, tasks_beside}

all_proper :
    {A : Type 0} (n : ℕ) (c : Codec A) (P : A → Type 0) → ((a : A) → c.Proper a → P a) → (l : List A) → (times n c).Proper l → AllByRecursion P l
all_proper zero c P f [] p = tt
all_proper zero c P f (a ∷ l) p = absurd p
all_proper (suc n) c P f [] p = absurd p
all_proper (suc n) c P f (a ∷ l) p = (f a p.0, all_proper n c P f l p.1)

proper_all :
    {A : Type 0} (c : Codec A) (P : A → Type 0) → ((a : A) → P a → c.Proper a) → (l : List A) → AllByRecursion P l → (times (length l) c).Proper l
proper_all c P f [] p = tt
proper_all c P f (a ∷ l) p = (f a p.0, proper_all c P f l p.1)

window_in : (s n : ℕ) → 16 ≤ s → 1 ≤ n → (w : Window) → (window s n).Proper w → WindowIn s n w
window_in s n hs hn w p =
    record {
      whose = omega (arith, p.0.1);
      longer = omega (arith, p.1.0);
      ticks = (omega (arith, p.1.0), p.1.1);
    }

in_window : (s n : ℕ) (w : Window) → WindowIn s n w → (window s n).Proper w
in_window s n w p = ((omega arith, omega (arith, p.whose)), (omega (arith, p.longer), p.ticks.1))

channel_in : (n : ℕ) → 1 ≤ n → (c : Channel) → (channel n).Proper c → ChannelIn n c
channel_in n hn c p =
    record { from = omega (arith, p.0.1); to = omega (arith, p.1.0.1); bytes = p.1.1.0.1; places = p.1.1.1.1 }

in_channel : (n : ℕ) (c : Channel) → ChannelIn n c → (channel n).Proper c
in_channel n c p =
    ((omega arith, omega (arith, p.from)), ((omega arith, omega (arith, p.to)), ((omega arith, p.bytes), (omega arith, p.places))))

task_in : (t : Task) → task.Proper t → TaskIn t
task_in t p = record { priority = omega (arith, p.0.1); period = p.1.0; deadline = p.1.1.0; lates = omega (arith, p.1.1.1.1) }

in_task : (t : Task) → TaskIn t → task.Proper t
in_task t p = ((omega arith, omega (arith, p.priority)), (p.period, (p.deadline, (omega arith, omega (arith, p.lates)))))

tasks_in_lem : (q : Part) → partition.Proper q → TasksIn q.tasks
tasks_in_lem q p = record { few = p.0.1.1; each = all_proper (length q.tasks) task TaskIn task_in q.tasks p.1 }

same_length : (ps : List Part) (ms : List (List ℕ)) → ProperEach memory ps ms → length ps ≡ length ms
same_length [] [] p = refl
same_length [] (m ∷ ms) p = absurd p
same_length (q ∷ ps) [] p = absurd p
same_length (q ∷ ps) (m ∷ ms) p = ap suc (same_length ps ms p.1)

memories_in_lem : (n : ℕ) (ps : List Part) (ms : List (List ℕ)) → (times n partition).Proper ps → ProperEach memory ps ms → AllByRecursion MemoryIn ms
memories_in_lem n [] [] u p = tt
memories_in_lem n [] (m ∷ ms) u p = absurd p
memories_in_lem zero (q ∷ ps) [] u p = absurd p
memories_in_lem (suc n) (q ∷ ps) [] u p = absurd p
memories_in_lem zero (q ∷ ps) (m ∷ ms) u p = absurd u
memories_in_lem (suc n) (q ∷ ps) (m ∷ ms) u p =
    (record { pages = q.pages; whole = p.0.0; many = u.0.0.0; bytes = p.0.1 }, memories_in_lem n ps ms u.1 p.1)

pages_of_lem : (m : List ℕ) (h : MemoryIn m) → length m / 4096 ≡ h.pages
pages_of_lem m h = omega (arith, h.whole)

in_parts :
    (ms : List (List ℕ)) (ts : List (List Task)) → length ms ≡ length ts → AllByRecursion MemoryIn ms → AllByRecursion TasksIn ts
    → (times (length ts) partition).Proper (beside ms ts)
in_parts [] [] e hm ht = tt
in_parts [] (t ∷ ts) e hm ht = absurd (omega (arith, e))
in_parts (m ∷ ms) [] e hm ht = absurd (omega (arith, e))
in_parts (m ∷ ms) (t ∷ ts) e hm ht = (
  (
    (
      (omega (arith, pages_of_lem m hm.0, hm.0.many.0), omega (arith, pages_of_lem m hm.0, hm.0.many.1)),
      (omega arith, ht.0.few),
    ),
    proper_all task TaskIn in_task t ht.0.each,
  ),
  in_parts ms ts (omega (arith, e)) hm.1 ht.1,
)

in_memories : (ms : List (List ℕ)) (ts : List (List Task)) → length ms ≡ length ts → AllByRecursion MemoryIn ms → ProperEach memory (beside ms ts) ms
in_memories [] ts e hm = tt
in_memories (m ∷ ms) [] e hm = absurd (omega (arith, e))
in_memories (m ∷ ms) (t ∷ ts) e hm =
    ((omega (arith, pages_of_lem m hm.0, hm.0.whole), hm.0.bytes), in_memories ms ts (omega (arith, e)) hm.1)

pub bounds-proper : (i : Image) → image.Proper i → InBounds i
unfolding image
bounds-proper i p =
    let n = length i.plan.tasks in
    let s = i.plan.system in
    let h = p.0.1 in
    let ps = beside i.memories i.plan.tasks in
    let many : length ps ≡ n = length-proper n partition ps p.1.1.1.0 in
    let ts : map (λ q. q.tasks) ps ≡ i.plan.tasks = tasks_beside i.memories i.plan.tasks many in
    record {
      system = h.0;
      partitions = h.1.0;
      windows = h.1.1.0;
      channels = h.1.1.1.1;
      each_window =
          all_proper (length i.plan.windows) (window s n) (WindowIn s n) (window_in s n h.0.0 h.1.0.0) i.plan.windows p.1.0;
      each_channel = all_proper (length i.plan.channels) (channel n) (ChannelIn n) (channel_in n h.1.0.0) i.plan.channels p.1.1.0;
      each_tasks =
          subst (AllByRecursion TasksIn) ts (All-map TasksIn (λ q. q.tasks) ps (all_proper n partition (λ q. TasksIn q.tasks) tasks_in_lem ps p.1.1.1.0));
      memories = sym (same_length ps i.memories p.1.1.1.1) ∙ many;
      each_memory = memories_in_lem n ps i.memories p.1.1.1.0 p.1.1.1.1;
    }

pub proper_bounds : (i : Image) → InBounds i → image.Proper i
unfolding image
proper_bounds i b =
    let n = length i.plan.tasks in
    let s = i.plan.system in (
      ((omega arith, omega arith), (b.system, (b.partitions, (b.windows, (omega arith, b.channels))))),
      (
        proper_all (window s n) (WindowIn s n) (in_window s n) i.plan.windows b.each_window,
        (
          proper_all (channel n) (ChannelIn n) (in_channel n) i.plan.channels b.each_channel,
          (
            in_parts i.memories i.plan.tasks b.memories b.each_memory b.each_tasks,
            in_memories i.memories i.plan.tasks b.memories b.each_memory,
          ),
        ),
      ),
    )
