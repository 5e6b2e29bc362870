-- A plan that is handed over, as bytes.
use Rattle.std.proofs.Common.{◌≡◌, ℕ, ◌+◌, ◌*◌, ◌/◌, ◌<◌, ◌≤◌, List, [], ◌∷◌, ◌++◌, map, length, get_or, take, drop, sym, refl, ap, ◌∙◌, mul-suc, arith}
use Rattle.std.specs.List.{flat_map, All, AllByRecursion}
use Rattle.std.proofs.lemmas.List.{length-append, length-map, take_at}
use Rattle.std.proofs.lemmas.List.Elements.{All-nil, All-cons}
use Rattle.octets.specs.Bytes.{put}
use Rattle.octets.proofs.Numbers.{length-bytes_of}
use Rattle.codec.specs.Codec.{Codec, got, times, write_each}
use Rattle.model.specs.declared.plan.Window.{Window}
use Rattle.model.specs.declared.plan.Channel.{Channel}
use Rattle.model.specs.declared.plan.Task.{Task}
use Rattle.plan.specs.declared.draft.Draft.{Draft}
use Rattle.plan.specs.declared.draft.DraftPart.{DraftPart}
use Rattle.plan.specs.Layout.{Image, header, window, channel, task, partition, memory, beside, image, read_plan, write_plan}
use Rattle.plan.specs.Bounds.{InBounds, TasksIn, MemoryIn}
use Rattle.plan.specs.Given.{Given, Fits}
use Rattle.plan.specs.Drafts.{window_bytes, channel_bytes, task_bytes, head_bytes, given, part_bytes, memory_bytes, draft_image, draft_bytes}
use Rattle.plan.specs.Promise.{DraftsAll}
use Rattle.plan.proofs.Exact.{reads_all}
use Rattle.plan.proofs.Writing.{length_more}

pub times_joined : {A : Type 0} (c : Codec A) (l : List A) → (times (length l) c).write l ≡ flat_map c.write l
times_joined c [] = refl
times_joined c (a ∷ l) = ap (λ r. c.write a ++ r) (times_joined c l)

tasks : List DraftPart → List (List Task)
tasks ps = map (λ p. p.tasks) (map given ps)

memories : List DraftPart → List (List ℕ)
memories ps = map (λ p. p.memory) (map given ps)

parts_written : (ps : List DraftPart) → (times (length (tasks ps)) partition).write (beside (memories ps) (tasks ps)) ≡ flat_map part_bytes ps
unfolding tasks memories
parts_written [] = refl
parts_written (p ∷ ps) =
    let ts = p.tasks.now in
    let h = head_bytes (record { pages = length p.memory.now / 4096; tasks = length ts }) in
    let rest = (times (length (tasks ps)) partition).write (beside (memories ps) (tasks ps)) in
    ap (λ b. (h ++ b) ++ rest) (times_joined task ts) ∙ ap (λ r. part_bytes p ++ r) (parts_written ps)

memories_written : (ps : List DraftPart) → write_each memory (beside (memories ps) (tasks ps)) (memories ps) ≡ flat_map memory_bytes ps
unfolding tasks memories
memories_written [] = refl
memories_written (p ∷ ps) = ap (λ r. memory_bytes p ++ r) (memories_written ps)

pub draft_written : (d : Draft) → write_plan (draft_image d) ≡ draft_bytes d
unfolding write_plan image tasks memories
draft_written d =
    let ws = d.windows.now in
    let cs = d.channels.now in
    let ps = d.parts.now in
    let n = length (tasks ps) in
    let W = (times (length ws) (window d.system n)).write ws in
    let C = (times (length cs) (channel n)).write cs in
    let P = (times n partition).write (beside (memories ps) (tasks ps)) in
    let M = write_each memory (beside (memories ps) (tasks ps)) (memories ps) in
    let many : n ≡ length ps = length-map (map given ps) (λ p. p.tasks) ∙ length-map ps given in
    ap (λ i. header.write (record { system = d.system; partitions = i; windows = length ws; channels = length cs }) ++ (W ++ (C ++ (P ++ M)))) many
    ∙ ap (λ b. header.write (record { system = d.system; partitions = length ps; windows = length ws; channels = length cs }) ++ b)
    (ap (λ w. w ++ (C ++ (P ++ M))) (times_joined (window d.system n) ws)
    ∙ ap (λ c. flat_map window_bytes ws ++ (c ++ (P ++ M))) (times_joined (channel n) cs)
    ∙ ap (λ p. flat_map window_bytes ws ++ (flat_map channel_bytes cs ++ (p ++ M))) (parts_written ps)
    ∙ ap (λ m. flat_map window_bytes ws ++ (flat_map channel_bytes cs ++ (flat_map part_bytes ps ++ m))) (memories_written ps))

-- Things of one size, one behind the other.
module _ {X : Type 0} (f : X → List ℕ) (m : ℕ) (size : (x : X) → length (f x) ≡ m) where
  length_joined : (l : List X) → length (flat_map f l) ≡ m * length l
  length_joined [] = omega arith
  length_joined (x ∷ l) = omega (arith, length-append (f x) (flat_map f l), size x, length_joined l, mul-suc m (length l))

window_length : (w : Window) → length (window_bytes w) ≡ 5
window_length w = simp (length-append, length-bytes_of) (omega arith)

channel_length : (c : Channel) → length (channel_bytes c) ≡ 5
channel_length c = simp (length-append, length-bytes_of) (omega arith)

task_length : (t : Task) → length (task_bytes t) ≡ 10
task_length t = simp (length-append, length-bytes_of) (omega arith)

pub part_length : (p : DraftPart) → length (part_bytes p) ≡ 3 + 10 * length p.tasks.now
part_length p =
    let n = length_joined task_bytes 10 task_length p.tasks.now in
    simp (length-append, length-bytes_of) (omega arith)

pub draft_length :
    (d : Draft)
    → length (write_plan (draft_image d))
    ≡ 10 + 5 * length d.windows.now + 5 * length d.channels.now + (length (flat_map part_bytes d.parts.now) + length (flat_map memory_bytes d.parts.now))
draft_length d =
    let ws = length_joined window_bytes 5 window_length d.windows.now in
    let cs = length_joined channel_bytes 5 channel_length d.channels.now in
    ap length (draft_written d) ∙ simp (length-append, length-bytes_of) (omega arith)

-- One part more.
pub size_more :
    (ps : List DraftPart) (i : ℕ) (d : DraftPart) (base size n : ℕ) → i < length ps
    → size ≡ base + (length (flat_map part_bytes (take i ps)) + length (flat_map memory_bytes (take i ps)))
    → n ≡ length (part_bytes (get_or ps i d)) + length (memory_bytes (get_or ps i d))
    → size + n ≡ base + (length (flat_map part_bytes (take (i + 1) ps)) + length (flat_map memory_bytes (take (i + 1) ps)))
size_more ps i d base size n h e en =
    let p = length_more part_bytes ps i d h in
    let m = length_more memory_bytes ps i d h in
    omega arith

pub tasks_more :
    (ps : List DraftPart) (i : ℕ) (d : DraftPart) (n : ℕ) → i < length ps → n ≡ length (flat_map (λ (p : DraftPart). p.tasks.now) (take i ps))
    → n + length (get_or ps i d).tasks.now ≡ length (flat_map (λ (p : DraftPart). p.tasks.now) (take (i + 1) ps))
tasks_more ps i d n h e = omega (arith, length_more (λ (p : DraftPart). p.tasks.now) ps i d h, e)

-- What was written at the front is read as it.
pub read_back : (i : Image) (entry exit : List ℕ) (n : ℕ) → InBounds i → n ≡ length (write_plan i) → exit ≡ put entry 0 (write_plan i) → read_plan (take n exit) ≡ got i n
unfolding put
read_back i entry exit n b en ex =
    ap (λ l. read_plan (take n l)) ex
    ∙ ap read_plan (take_at (write_plan i) (drop (0 + length (write_plan i)) entry) n (sym en))
    ∙ reads_all i b
    ∙ ap (got i) (sym en)

-- Each partition's tasks beside its memory.
given_of : List (List ℕ) → List (List Task) → List Given
given_of [] ts = []
given_of (m ∷ ms) [] = []
given_of (m ∷ ms) (t ∷ ts) = record { tasks = t; memory = m } ∷ given_of ms ts

given_tasks : (ms : List (List ℕ)) (ts : List (List Task)) → length ms ≡ length ts → map (λ (p : Given). p.tasks) (given_of ms ts) ≡ ts
unfolding given_of
given_tasks [] [] e = refl
given_tasks [] (t ∷ ts) e = absurd (omega (arith, e))
given_tasks (m ∷ ms) [] e = refl
given_tasks (m ∷ ms) (t ∷ ts) e = ap (λ l. t ∷ l) (given_tasks ms ts (omega (arith, e)))

given_memories : (ms : List (List ℕ)) (ts : List (List Task)) → length ms ≡ length ts → map (λ (p : Given). p.memory) (given_of ms ts) ≡ ms
unfolding given_of
given_memories [] ts e = refl
given_memories (m ∷ ms) [] e = absurd (omega (arith, e))
given_memories (m ∷ ms) (t ∷ ts) e = ap (λ l. m ∷ l) (given_memories ms ts (omega (arith, e)))

all : List (List Task) → List Task
all ts = flat_map (λ t. t) ts

few_all : (ts : List (List Task)) → AllByRecursion TasksIn ts → length (all ts) ≤ 16 * length ts
unfolding all
few_all [] h = omega arith
few_all (t ∷ ts) h = omega (arith, few_all ts h.1, length-append t (all ts), h.0.few)

given_all : (ms : List (List ℕ)) (ts : List (List Task)) → length ms ≡ length ts → flat_map (λ (p : Given). p.tasks) (given_of ms ts) ≡ all ts
unfolding all given_of
given_all [] [] e = refl
given_all [] (t ∷ ts) e = absurd (omega (arith, e))
given_all (m ∷ ms) [] e = refl
given_all (m ∷ ms) (t ∷ ts) e = ap (λ l. t ++ l) (given_all ms ts (omega (arith, e)))

given_fits : (ms : List (List ℕ)) (ts : List (List Task)) → AllByRecursion MemoryIn ms → AllByRecursion TasksIn ts → All Fits (given_of ms ts)
unfolding given_of
given_fits [] ts hm ht = All-nil Fits
given_fits (m ∷ ms) [] hm ht = All-nil Fits
given_fits (m ∷ ms) (t ∷ ts) hm ht =
    All-cons Fits (record { tasks = t; memory = m }) (given_of ms ts)
    (record {
      tasks = omega (arith, ht.0.few);
      whole = omega (arith, hm.0.whole);
      pages = omega (arith, hm.0.whole, hm.0.many.1);
    })
    (given_fits ms ts hm.1 ht.1)

pub drafts_all : DraftsAll
drafts_all i b =
    let ts = i.plan.tasks in
    let ms = i.memories in
    let ps = given_of ms ts in
    let te = given_tasks ms ts b.memories in
    let me = given_memories ms ts b.memories in (
      ps,
      record {
        same =
            λ j.
            record { plan = record { system = i.plan.system; windows = i.plan.windows; channels = i.plan.channels; tasks = te j }; memories = me j };
        windows = b.windows.1;
        channels = b.channels;
        parts = omega (arith, ap length te, length-map ps (λ (p : Given). p.tasks), b.partitions.1);
        few = omega (arith, ap length (given_all ms ts b.memories), few_all ts b.each_tasks, b.partitions.1);
        each = given_fits ms ts b.each_memory b.each_tasks;
      },
    )
