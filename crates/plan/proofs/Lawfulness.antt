-- Each kind of a plan's layout is read as it was written, and written as it was read.
use Rattle.std.proofs.Common.{◌≡◌, ℕ, zero, suc, ◌+◌, ◌-◌, ◌*◌, ◌/◌, ◌^◌, ◌<◌, ◌≤◌, List, [], ◌∷◌, map, length, refl, ap, ◌∙◌, arith, lit<}
use Rattle.std.proofs.lemmas.List.{length-map}
use Rattle.codec.specs.Codec.{Codec, ProperEach, chain, ◌▸◌, each, times}
use Rattle.codec.specs.Lawful.{Lawful}
use Rattle.codec.proofs.Laws.{number_law, raw_law, chain_law, ▸-law, named_law, each_law, times_law}
use Rattle.model.specs.declared.plan.Task.{Task}
use Rattle.plan.specs.declared.head.Header.{Header}
use Rattle.plan.specs.Layout.{Image, Part, Body, field, name, header, window, channel, task, part_head, partition, memory, body, beside, to_image, from_image, image}

pub field_law : (n lo hi : ℕ) → hi < 256 ^ n → Lawful (field n lo hi)
field_law n lo hi = number_law 1 3 n lo hi

-- So many things are so many.
pub length-proper : {A : Type 0} (n : ℕ) (c : Codec A) (l : List A) → (times n c).Proper l → length l ≡ n
length-proper zero c [] p = refl
length-proper zero c (a ∷ l) p = absurd p
length-proper (suc n) c [] p = absurd p
length-proper (suc n) c (a ∷ l) p = ap suc (length-proper n c l p.1)

pub header_law : Lawful header
header_law =
    named_law _ _ (name ▸ field 2 16 65535 ▸ field 1 1 32 ▸ field 2 1 256 ▸ field 1 0 128)
    (▸-law _ _ (number_law 1 2 4 0x454d4954 0x454d4954 (lit< tt))
    (▸-law _ _ (field_law 2 16 65535 (lit< tt))
    (▸-law _ _ (field_law 1 1 32 (lit< tt)) (▸-law _ _ (field_law 2 1 256 (lit< tt)) (field_law 1 0 128 (lit< tt))))))
    (λ t p. let e : 0x454d4954 ≡ t.0 = omega (arith, p.0.0, p.0.1) in ap (λ n. (n, t.1)) e)
    (λ h p. refl)

pub window_law : (s n : ℕ) → n ≤ 256 → Lawful (window s n)
window_law s n h =
    let few : n - 1 < 256 ^ 1 = omega arith in
    named_law _ _ (field 1 0 (n - 1) ▸ field 4 (s + 1) 1000000)
    (▸-law _ _ (field_law 1 0 (n - 1) few) (field_law 4 (s + 1) 1000000 (lit< tt)))
    (λ t p. refl)
    (λ w p. refl)

pub channel_law : (n : ℕ) → n ≤ 256 → Lawful (channel n)
channel_law n h =
    let few : n - 1 < 256 ^ 1 = omega arith in
    named_law _ _ (field 1 0 (n - 1) ▸ field 1 0 (n - 1) ▸ field 2 0 1024 ▸ field 1 0 64)
    (▸-law _ _ (field_law 1 0 (n - 1) few)
    (▸-law _ _ (field_law 1 0 (n - 1) few) (▸-law _ _ (field_law 2 0 1024 (lit< tt)) (field_law 1 0 64 (lit< tt)))))
    (λ t p. refl)
    (λ c p. refl)

pub task_law : Lawful task
task_law =
    named_law _ _ (field 1 0 255 ▸ chain (field 4 1 100000000) (λ period. field 4 1 period ▸ field 1 0 255))
    (▸-law _ _ (field_law 1 0 255 (lit< tt))
    (chain_law (field 4 1 100000000) (λ period. field 4 1 period ▸ field 1 0 255) (field_law 4 1 100000000 (lit< tt))
    (λ period p.
    let fits : period < 256 ^ 4 = omega (arith, p.1) in
    ▸-law _ _ (field_law 4 1 period fits) (field_law 1 0 255 (lit< tt)))))
    (λ t p. refl)
    (λ t p. refl)

pub part_head_law : Lawful part_head
part_head_law =
    named_law _ _ (field 2 1 256 ▸ field 1 0 16) (▸-law _ _ (field_law 2 1 256 (lit< tt)) (field_law 1 0 16 (lit< tt))) (λ t p. refl) (λ h p. refl)

pub partition_law : Lawful partition
partition_law =
    named_law _ _ (chain part_head (λ h. times h.tasks task))
    (chain_law part_head (λ h. times h.tasks task) part_head_law (λ h p. times_law h.tasks task task_law))
    (λ t p. ap (λ n. (record { pages = t.0.pages; tasks = n }, t.1)) (length-proper t.0.tasks task t.1 p.1))
    (λ q p. refl)

pub body_law : (h : Header) → h.partitions ≤ 256 → Lawful (body h)
body_law h few =
    ▸-law _ _ (times_law h.windows _ (window_law h.system h.partitions few))
    (▸-law _ _ (times_law h.channels _ (channel_law h.partitions few))
    (chain_law (times h.partitions partition) (each memory) (times_law h.partitions partition partition_law)
    (λ ps p. each_law memory (λ q. raw_law 1 (4096 * q.pages)) ps)))

beside_parts : (ps : List Part) (ms : List (List ℕ)) → ProperEach memory ps ms → beside ms (map (λ p. p.tasks) ps) ≡ ps
beside_parts [] [] p = refl
beside_parts [] (m ∷ ms) p = absurd p
beside_parts (q ∷ ps) [] p = absurd p
beside_parts (q ∷ ps) (m ∷ ms) p =
    let e : length m / 4096 ≡ q.pages = omega (arith, p.0.0) in
    ap (λ n. record { pages = n; tasks = q.tasks } ∷ beside ms (map (λ r. r.tasks) ps)) e ∙ ap (λ l. q ∷ l) (beside_parts ps ms p.1)

pub tasks_beside : (ms : List (List ℕ)) (ts : List (List Task)) → length (beside ms ts) ≡ length ts → map (λ p. p.tasks) (beside ms ts) ≡ ts
tasks_beside [] [] e = refl
tasks_beside [] (t ∷ ts) e = absurd (omega (arith, e))
tasks_beside (m ∷ ms) [] e = refl
tasks_beside (m ∷ ms) (t ∷ ts) e = ap (λ l. t ∷ l) (tasks_beside ms ts (omega (arith, e)))

restores : (t : Header × Body) → (chain header body).Proper t → from_image (to_image t) ≡ t
restores t p =
    let ps = t.1.1.1.0 in
    let ms = t.1.1.1.1 in
    let h = t.0 in
    ap (λ n. (record { system = h.system; partitions = n; windows = length t.1.0; channels = length t.1.1.0 }, (t.1.0, (t.1.1.0, (beside ms (map (λ q. q.tasks) ps), ms)))))
    (length-map ps (λ q. q.tasks) ∙ length-proper h.partitions partition ps p.1.1.1.0)
    ∙ ap (λ n. (record { system = h.system; partitions = h.partitions; windows = n; channels = length t.1.1.0 }, (t.1.0, (t.1.1.0, (beside ms (map (λ q. q.tasks) ps), ms)))))
    (length-proper h.windows (window h.system h.partitions) t.1.0 p.1.0)
    ∙ ap (λ n. (record { system = h.system; partitions = h.partitions; windows = h.windows; channels = n }, (t.1.0, (t.1.1.0, (beside ms (map (λ q. q.tasks) ps), ms)))))
    (length-proper h.channels (channel h.partitions) t.1.1.0 p.1.1.0)
    ∙ ap (λ l. (h, (t.1.0, (t.1.1.0, (l, ms))))) (beside_parts ps ms p.1.1.1.1)

names : (i : Image) → (chain header body).Proper (from_image i) → to_image (from_image i) ≡ i
names i p =
    ap (λ l. record { plan = record { system = i.plan.system; windows = i.plan.windows; channels = i.plan.channels; tasks = l }; memories = i.memories })
    (tasks_beside i.memories i.plan.tasks (length-proper (length i.plan.tasks) partition (beside i.memories i.plan.tasks) p.1.1.1.0))

pub image_law : Lawful image
unfolding image
image_law =
    named_law to_image from_image (chain header body) (chain_law header body header_law (λ h p. body_law h (omega (arith, p.1.1.0.1)))) restores names
