-- Bytes that were taken, part by part.
use Rattle.std.proofs.Common.{◌≡◌, ℕ, zero, suc, ◌+◌, ◌-◌, ◌*◌, ◌/◌, ◌<◌, ◌≤◌, true, false, eqb, leb, List, [], ◌∷◌, map, length, get_or, take, drop, is_ok, Some, Ok, Err, Result, sym, refl, ap, subst, ◌∙◌, ⊎_elim, arith}
use Rattle.std.specs.List.{between, slice_get}
use Rattle.std.proofs.lemmas.Bool.{leb-true, eqb-true, both_ways, cases_lt}
use Rattle.std.proofs.lemmas.Option.{slice_get-get_or}
use Rattle.std.proofs.lemmas.List.{length-map, length-take, length-drop, get_or-map}
use Rattle.codec.specs.Codec.{Outcome, got, refused, follow, map_out, read_each, each, times, chain, ◌▸◌, whole}
use Rattle.codec.proofs.Outcomes.{never, got_value, got_place, follow_got, map-got, cond_got, chain_got}
use Rattle.codec.proofs.Sizes.{times_length, times_sized, times_item, each_length}
use Rattle.model.specs.declared.plan.Window.{Window}
use Rattle.model.specs.declared.plan.Channel.{Channel}
use Rattle.model.specs.declared.plan.Task.{Task}
use Rattle.plan.specs.declared.refusal.Refusal.{Refusal}
use Rattle.plan.specs.declared.head.Header.{Header}
use Rattle.plan.specs.declared.head.PartHead.{PartHead}
use Rattle.plan.specs.Refusals.{told, number_of, place_of}
use Rattle.plan.specs.Ends.{seen, ended, pages_of}
use Rattle.plan.specs.Layout.{Image, Part, Body, header, window, channel, task, part_head, partition, memory, body, to_image, image, read_plan}
use Rattle.plan.specs.Sizes.{window_size, channel_size, part_head_size, header_size}
use Rattle.plan.specs.Taken.{was_read, things, accepts, image_or, image_in, pages_in}
use Rattle.plan.specs.Places.{channels_from, parts_from, IsPart}
use Rattle.plan.proofs.Nth.{told_ok, ended_ok}
use Rattle.plan.proofs.Walk.{stop_header}

was_image : (o : Outcome Image) (d : Image) → was_read o ≡ true → (j : ℕ) × (o ≡ got (image_or d o) j)
was_image (got i j) d e = (j, refl)
was_image (refused n p) d e = absurd (both_ways false refl e)

pub accepted : (xs : List ℕ) → accepts xs ≡ true → (j : ℕ) × (read_plan xs ≡ got (image_in xs) j)
unfolding accepts image_in
accepted xs ok = was_image (read_plan xs) _ ok

pub header_ok : (xs : List ℕ) → accepts xs ≡ true → (j : ℕ) (r : Result Header Refusal) → told j r ≡ header.read xs 0 → is_ok r ≡ true
header_ok xs ok j (Ok h) e = refl
header_ok xs ok j (Err x) e = absurd (never (stop_header xs (number_of x) (place_of x) e ∙ ap seen (accepted xs ok).1))

-- The header's place behind it.
pub header_at : (xs : List ℕ) (h : Header) (j : ℕ) → got h j ≡ header.read xs 0 → got h 10 ≡ header.read xs 0
header_at xs h j e = ap (got h) (sym (header_size.ends xs 0 j h (sym e))) ∙ e

pub record Opened (xs : List ℕ) (h : Header) : Type 0 where
  pub ws : List Window
  pub cs : List Channel
  pub ps : List Part
  pub ms : List (List ℕ)
  pub behind : ℕ
  pub windows : (times h.windows (window h.system h.partitions)).read xs 10 ≡ got ws (channels_from h)
  pub channels : (times h.channels (channel h.partitions)).read xs (channels_from h) ≡ got cs (parts_from h)
  pub parts : (times h.partitions partition).read xs (parts_from h) ≡ got ps behind
  pub memories : (each memory ps).read xs behind ≡ got ms (length xs)
  pub is : to_image (h, (ws, (cs, (ps, ms)))) ≡ image_in xs

body_opened :
    (xs : List ℕ) (h : Header) (b : Body) (j : ℕ) → j ≡ length xs → (body h).read xs 10 ≡ got b j → to_image (h, b) ≡ image_in xs → Opened xs h
body_opened xs h b j ej e is =
    let W = times h.windows (window h.system h.partitions) in
    let C = times h.channels (channel h.partitions) in
    let P = times h.partitions partition in
    let p = chain_got W (λ ws. C ▸ chain P (each memory)) xs 10 j b e in
    let q = chain_got C (λ cs. chain P (each memory)) xs p.1 j p.2 p.4 in
    let r = chain_got P (each memory) xs q.1 j q.2 q.4 in
    let ew : p.1 ≡ channels_from h = times_sized (window h.system h.partitions) xs 5 (window_size h.system h.partitions).ends h.windows 10 p.1 p.0 p.3 in
    let ec : q.1 ≡ parts_from h =
    times_sized (channel h.partitions) xs 5 (channel_size h.partitions).ends h.channels p.1 q.1 q.0 q.3 ∙ ap (λ n. n + 5 * h.channels) ew in
    record {
      ws = p.0;
      cs = q.0;
      ps = r.0;
      ms = r.2;
      behind = r.1;
      windows = p.3 ∙ ap (got p.0) ew;
      channels = ap (C.read xs) (sym ew) ∙ q.3 ∙ ap (got q.0) ec;
      parts = ap (P.read xs) (sym ec) ∙ r.3;
      memories = r.4 ∙ ap (got r.2) ej;
      is =
          ap (λ t. to_image (h, (p.0, (q.0, t)))) r.5 ∙ ap (λ t. to_image (h, (p.0, t))) q.5 ∙ ap (λ t. to_image (h, t)) p.5 ∙ is;
    }

pub opened : (xs : List ℕ) → accepts xs ≡ true → (h : Header) → got h 10 ≡ header.read xs 0 → Opened xs h
unfolding read_plan whole image
opened xs ok h eh =
    let a = accepted xs ok in
    let w = follow_got (image.read xs 0) _ (image_in xs) a.0 a.1 in
    let t = cond_got (eqb w.1 (length xs)) (got w.0 w.1) 1 w.1 (image_in xs) a.0 w.3 in
    let m = map-got to_image ((chain header body).read xs 0) w.0 w.1 w.2 in
    let b = map-got (λ (x : Body). (h, x)) ((body h).read xs 10) m.0 w.1 (ap (λ o. follow o (λ g j. map_out (λ (x : Body). (g, x)) ((body g).read xs j))) eh ∙ m.1) in
    body_opened xs h b.0 w.1 (eqb-true w.1 (length xs) t.0) b.1 (ap to_image b.2 ∙ m.2 ∙ got_value t.1)

-- A partition's part: what it begins with, and its tasks behind that.
part_read :
    (xs : List ℕ) (k j : ℕ) (p : Part) → partition.read xs k ≡ got p j
    → (g : PartHead) × (part_head.read xs k ≡ got g (k + 3)) × ((times g.tasks task).read xs (k + 3) ≡ got p.tasks j) × (g.pages ≡ p.pages)
part_read xs k j p e =
    let m = map-got _ ((chain part_head (λ g. times g.tasks task)).read xs k) p j e in
    let q = chain_got part_head (λ g. times g.tasks task) xs k j m.0 m.1 in
    let at : q.1 ≡ k + 3 = part_head_size.ends xs k q.1 q.0 q.3 in
    let same : record { pages = q.0.pages; tasks = q.2 } ≡ p = ap (λ t. record { pages = t.0.pages; tasks = t.1 }) q.5 ∙ m.2 in (
      q.0,
      q.3 ∙ ap (got q.0) at,
      ap ((times q.0.tasks task).read xs) (sym at) ∙ q.4 ∙ ap (λ (x : Part). got x.tasks j) same,
      ap (λ (x : Part). x.pages) same,
    )

abbrev no_part : Part
no_part = record { pages = 0; tasks = [] }

abbrev no_task : Task
no_task = record { priority = 0; period = 0; deadline = 0; lates = 0 }

-- The tasks in front of each task of a partition were read.
module _ (xs : List ℕ) (h : Header) (o : Opened xs h) where
  module _ (q before at : ℕ) (lt : q < h.partitions) (eb : got before at ≡ map_out pages_of ((times q partition).read xs (parts_from h))) where
    module _ (g : PartHead) (eg : got g (at + 3) ≡ part_head.read xs at) where
      pub task_ok : (i : ℕ) (r : Result ℕ Refusal) → i < g.tasks → ended r ≡ seen ((times i task).read xs (at + 3)) → is_ok r ≡ true
      task_ok i r l e =
          let b = times_item partition xs h.partitions q (parts_from h) o.behind o.ps no_part lt o.parts in
          let p = get_or o.ps q no_part in
          let here : b.0 ≡ at = sym (got_place (eb ∙ ap (map_out pages_of) b.2)) in
          let own = part_read xs at b.1 p (ap (partition.read xs) (sym here) ∙ b.3) in
          let same : own.0 ≡ g = sym (got_value (eg ∙ own.1)) in
          let read : (times g.tasks task).read xs (at + 3) ≡ got p.tasks b.1 = ap (λ (x : PartHead). (times x.tasks task).read xs (at + 3)) (sym same) ∙ own.2 in
          let t = times_item task xs g.tasks i (at + 3) b.1 p.tasks no_task l read in
          ap is_ok (ended_ok r ((times i task).read xs (at + 3)) t.0 (take i p.tasks) e t.2)

-- A partition's memory lies behind those before it.
memory_at :
    (ps : List Part) (q : ℕ) (xs : List ℕ) (k j : ℕ) (ms : List (List ℕ)) → q < length ps → (each memory ps).read xs k ≡ got ms j
    → (get_or ms q [] ≡ between (k + 4096 * pages_of (take q ps)) (k + 4096 * pages_of (take q ps) + 4096 * (get_or ps q no_part).pages) xs)
    × (k + 4096 * pages_of (take q ps) + 4096 * (get_or ps q no_part).pages ≤ length xs)
memory_at [] q xs k j ms h e = absurd (omega arith)
memory_at (p ∷ ps) zero xs k j ms h e =
    let f = follow_got ((memory p).read xs k) _ ms j e in
    let m = map-got (λ l. f.0 ∷ l) (read_each memory ps xs f.1) ms j f.3 in
    let n = k + 4096 * p.pages in
    let t = cond_got (leb n (length xs)) (got (between k n xs) n) 1 (length xs) f.0 f.1 f.2 in
    let z : k ≡ k + 4096 * 0 = omega arith in
    let w : n ≤ length xs = leb-true n (length xs) t.0 in (
      ap (λ l. get_or l 0 []) (sym m.2) ∙ sym (got_value t.1) ∙ ap (λ i. between i (i + 4096 * p.pages) xs) z,
      omega arith,
    )
memory_at (p ∷ ps) (suc q) xs k j ms h e =
    let f = follow_got ((memory p).read xs k) _ ms j e in
    let m = map-got (λ l. f.0 ∷ l) (read_each memory ps xs f.1) ms j f.3 in
    let n = k + 4096 * p.pages in
    let t = cond_got (leb n (length xs)) (got (between k n xs) n) 1 (length xs) f.0 f.1 f.2 in
    let r = memory_at ps q xs f.1 j m.0 (omega arith) m.1 in
    let i : f.1 + 4096 * pages_of (take q ps) ≡ k + 4096 * (p.pages + pages_of (take q ps)) = omega (arith, got_place t.1) in (
      ap (λ l. get_or l (suc q) []) (sym m.2) ∙ r.0 ∙ ap (λ i. between i (i + 4096 * (get_or ps q no_part).pages) xs) i,
      omega (arith, r.1, i),
    )

-- What a view's header says, and what lies behind it, is the plan that the bytes are.
module _ (xs : List ℕ) (ok : accepts xs ≡ true) (h : Header) (eh : got h 10 ≡ header.read xs 0) where
  o : Opened xs h
  o = opened xs ok h eh

  pub system_is : h.system ≡ (image_in xs).plan.system
  system_is = ap (λ i. i.plan.system) o.is

  windows_are : o.ws ≡ (image_in xs).plan.windows
  windows_are = ap (λ i. i.plan.windows) o.is

  channels_are : o.cs ≡ (image_in xs).plan.channels
  channels_are = ap (λ i. i.plan.channels) o.is

  tasks_are : map (λ p. p.tasks) o.ps ≡ (image_in xs).plan.tasks
  tasks_are = ap (λ i. i.plan.tasks) o.is

  memories_are : o.ms ≡ (image_in xs).memories
  memories_are = ap (λ i. i.memories) o.is

  pub windows_there : was_read ((times h.windows (window h.system h.partitions)).read xs 10) ≡ true
  windows_there = ap was_read o.windows

  pub windows_read : things ((times h.windows (window h.system h.partitions)).read xs 10) ≡ (image_in xs).plan.windows
  windows_read = ap things o.windows ∙ windows_are

  pub channels_there : was_read ((times h.channels (channel h.partitions)).read xs (channels_from h)) ≡ true
  channels_there = ap was_read o.channels

  pub channels_read : things ((times h.channels (channel h.partitions)).read xs (channels_from h)) ≡ (image_in xs).plan.channels
  channels_read = ap things o.channels ∙ channels_are

  pub many_windows : h.windows ≡ length (image_in xs).plan.windows
  many_windows = sym (times_length (window h.system h.partitions) xs h.windows 10 _ o.ws o.windows) ∙ ap length windows_are

  pub many_channels : h.channels ≡ length (image_in xs).plan.channels
  many_channels = sym (times_length (channel h.partitions) xs h.channels _ _ o.cs o.channels) ∙ ap length channels_are

  many_parts : h.partitions ≡ length o.ps
  many_parts = sym (times_length partition xs h.partitions _ _ o.ps o.parts)

  pub many_partitions : h.partitions ≡ length (image_in xs).plan.tasks
  many_partitions = many_parts ∙ sym (length-map o.ps (λ p. p.tasks)) ∙ ap length tasks_are

  pub many_memories : length (image_in xs).memories ≡ h.partitions
  many_memories = ap length (sym memories_are) ∙ each_length memory o.ps xs o.behind (length xs) o.ms o.memories ∙ sym many_parts

  abbrev Parts : ℕ → Outcome (List Part)
  Parts q = (times q partition).read xs (parts_from h)

  abbrev nth_part : ℕ → Part
  nth_part q = get_or o.ps q no_part

  -- The parts before one were read, and it was.
  parts_before : (q : ℕ) → q < h.partitions → (e : ℕ) × (f : ℕ) × (Parts q ≡ got (take q o.ps) e) × (partition.read xs e ≡ got (nth_part q) f)
  parts_before q lt = times_item partition xs h.partitions q (parts_from h) o.behind o.ps no_part lt o.parts

  pub passed_ok : (q j : ℕ) (r : Result ℕ Refusal) → q ≤ h.partitions → told j r ≡ map_out pages_of (Parts q) → is_ok r ≡ true
  passed_ok q j r le e =
      ⊎_elim
      (λ (lt : q < h.partitions).
      let b = parts_before q lt in
      ap is_ok (told_ok r (map_out pages_of (Parts q)) j b.0 (pages_of (take q o.ps)) e (ap (map_out pages_of) b.2)))
      (λ (ge : h.partitions ≤ q).
      let all : h.partitions ≡ q = omega arith in
      let t : map_out pages_of (Parts q) ≡ got (pages_of o.ps) o.behind = ap (λ n. map_out pages_of (Parts n)) (sym all) ∙ ap (map_out pages_of) o.parts in
      ap is_ok (told_ok r (map_out pages_of (Parts q)) j o.behind (pages_of o.ps) e t))
      (cases_lt q h.partitions)

  pub parts_there : parts_from h ≤ length xs
  parts_there =
      ⊎_elim
      (λ (lt : 0 < h.partitions).
      let b = parts_before 0 lt in
      let p = part_read xs b.0 b.1 (nth_part 0) b.3 in
      omega (arith, part_head_size.there xs b.0 (b.0 + 3) p.0 p.1, got_place b.2))
      (λ (ge : h.partitions ≤ 0).
      let none : h.partitions ≡ 0 = omega arith in
      let e : got o.ps o.behind ≡ got [] (parts_from h) = sym o.parts ∙ ap Parts none in
      let m : (each memory []).read xs o.behind ≡ got o.ms (length xs) = ap (λ ps. (each memory ps).read xs o.behind) (sym (got_value e)) ∙ o.memories in
      omega (arith, got_place e, got_place m))
      (cases_lt 0 h.partitions)

  module _ (q before at : ℕ) (lt : q < h.partitions) (eb : got before at ≡ map_out pages_of (Parts q)) where
    here : (f : ℕ) × (Parts q ≡ got (take q o.ps) at) × (partition.read xs at ≡ got (nth_part q) f)
    here =
        let b = parts_before q lt in
        let e : b.0 ≡ at = sym (got_place (eb ∙ ap (map_out pages_of) b.2)) in
        (b.1, b.2 ∙ ap (got (take q o.ps)) e, ap (partition.read xs) (sym e) ∙ b.3)

    before_is : before ≡ pages_of (take q o.ps)
    before_is = got_value (eb ∙ ap (map_out pages_of) here.1)

    own : (g : PartHead) × (part_head.read xs at ≡ got g (at + 3)) × ((times g.tasks task).read xs (at + 3) ≡ got (nth_part q).tasks here.0) × (g.pages ≡ (nth_part q).pages)
    own = part_read xs at here.0 (nth_part q) here.2

    pub head_ok : (j : ℕ) (r : Result PartHead Refusal) → told j r ≡ part_head.read xs at → is_ok r ≡ true
    head_ok j r e = ap is_ok (told_ok r _ j _ own.0 e own.1)

    module _ (g : PartHead) (j : ℕ) (eg : got g j ≡ part_head.read xs at) where
      same : own.0 ≡ g
      same = sym (got_value (eg ∙ own.1))

      pages_are : g.pages ≡ (nth_part q).pages
      pages_are = ap (λ (x : PartHead). x.pages) (sym same) ∙ own.3

      tasks_here : (nth_part q).tasks ≡ get_or (image_in xs).plan.tasks q []
      tasks_here = sym (get_or-map (λ (p : Part). p.tasks) o.ps q no_part [] (omega (arith, many_parts))) ∙ ap (λ l. get_or l q []) tasks_are

      tasks_read : (times g.tasks task).read xs j ≡ got (get_or (image_in xs).plan.tasks q []) here.0
      tasks_read =
          ap (λ n. (times g.tasks task).read xs n) (got_place (eg ∙ own.1))
          ∙ ap (λ (x : PartHead). (times x.tasks task).read xs (at + 3)) (sym same)
          ∙ own.2
          ∙ ap (λ ts. got ts here.0) tasks_here

      many_tasks : length (get_or (image_in xs).plan.tasks q []) ≡ g.tasks
      many_tasks = times_length task xs g.tasks j _ (get_or (image_in xs).plan.tasks q []) tasks_read

      tasks_is : Some g.tasks ≡ slice_get (map (λ ts. length ts) (image_in xs).plan.tasks) q
      tasks_is =
          let ts = (image_in xs).plan.tasks in
          let lt' : q < length ts = omega (arith, many_partitions) in
          ap Some (sym many_tasks ∙ sym (get_or-map (λ l. length l) ts q [] 0 lt'))
          ∙ sym (slice_get-get_or (map (λ l. length l) ts) q 0 (omega (arith, length-map ts (λ (l : List Task). length l))))

      abbrev Lies : ℕ → Type 0
      Lies e =
          (between (e + 4096 * before) (e + 4096 * before + 4096 * g.pages) xs ≡ get_or (image_in xs).memories q [])
          × (e + 4096 * before + 4096 * g.pages ≤ length xs)

      memory_is : Lies o.behind
      memory_is =
          let m = memory_at o.ps q xs o.behind (length xs) o.ms (omega (arith, many_parts)) o.memories in
          let a : o.behind + 4096 * pages_of (take q o.ps) ≡ o.behind + 4096 * before = omega (arith, before_is) in
          let b : o.behind + 4096 * pages_of (take q o.ps) + 4096 * (nth_part q).pages ≡ o.behind + 4096 * before + 4096 * g.pages = omega (arith, a, pages_are) in (
            ap (λ i. between i (o.behind + 4096 * before + 4096 * g.pages) xs) (sym a)
                ∙ ap (λ i. between (o.behind + 4096 * pages_of (take q o.ps)) i xs) (sym b)
                ∙ sym m.0
                ∙ ap (λ l. get_or l q []) memories_are,
            omega (arith, b, m.1),
          )

      pages_is : Some g.pages ≡ slice_get (map pages_in (image_in xs).memories) q
      pages_is =
          let ms = (image_in xs).memories in
          let m = memory_is in
          let a = o.behind + 4096 * before in
          let n : length (get_or ms q []) ≡ 4096 * g.pages =
          ap length (sym m.0) ∙ omega (arith, m.1, length-take (a + 4096 * g.pages - a) (drop a xs), length-drop a xs) in
          let v : g.pages ≡ length (get_or ms q []) / 4096 = omega (arith, n) in
          ap Some (v ∙ sym (get_or-map pages_in ms q [] 0 (omega (arith, many_memories))))
          ∙ sym (slice_get-get_or (map pages_in ms) q 0 (omega (arith, many_memories, length-map ms pages_in)))

      -- All of it, in the words of the view.
      pub part_is : IsPart xs q (record { head = g; tasks_at = j; before = before })
      part_is =
          record {
            pages = pages_is;
            tasks = tasks_is;
            read = ap was_read tasks_read;
            each = ap things tasks_read;
            memory =
                λ f n e ef en.
                let same_header : h ≡ f = got_value (eh ∙ sym ef) in
                let at_end : o.behind ≡ e = sym (got_place (en ∙ ap (λ (x : Header). map_out pages_of ((times x.partitions partition).read xs (parts_from x))) (sym same_header) ∙ ap (map_out pages_of) o.parts)) in
                subst Lies at_end memory_is;
          }
