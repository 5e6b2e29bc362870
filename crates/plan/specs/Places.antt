-- Where the parts of a plan lie in its bytes. Assumes nothing: these are definitions.
use Rattle.std.specs.Prelude.{◌≡◌, ℕ, ◌+◌, ◌*◌, ◌≤◌, true, Some, List, [], map, length, slice_index_or}
use Rattle.std.specs.List.{slice_get, between}
use Rattle.codec.specs.Codec.{got, map_out, times}
use Rattle.plan.specs.declared.head.Header.{Header}
use Rattle.plan.specs.declared.part.Part.{Part}
use Rattle.plan.specs.Ends.{pages_of}
use Rattle.plan.specs.Layout.{header, task, partition}
use Rattle.plan.specs.Taken.{image_in, pages_in, was_read, things}

-- Where the channels begin, and where the partitions' parts do.
abbrev pub channels_from : Header → ℕ
channels_from h = 10 + 5 * h.windows

abbrev pub parts_from : Header → ℕ
parts_from h = 10 + 5 * h.windows + 5 * h.channels

-- What was found of partition q.
pub record IsPart (xs : List ℕ) (q : ℕ) (p : Part) : Type 0 where
  pub pages : Some p.head.pages ≡ slice_get (map pages_in (image_in xs).memories) q
  pub tasks : Some p.head.tasks ≡ slice_get (map (λ ts. length ts) (image_in xs).plan.tasks) q
  pub read : was_read ((times p.head.tasks task).read xs p.tasks_at) ≡ true
  pub each : things ((times p.head.tasks task).read xs p.tasks_at) ≡ slice_index_or (image_in xs).plan.tasks q []
  pub memory :
      (h : Header) (n e : ℕ) → got h 10 ≡ header.read xs 0 → got n e ≡ map_out pages_of ((times h.partitions partition).read xs (parts_from h))
      → (between (e + 4096 * p.before) (e + 4096 * p.before + 4096 * p.head.pages) xs ≡ slice_index_or (image_in xs).memories q [])
      × (e + 4096 * p.before + 4096 * p.head.pages ≤ length xs)
