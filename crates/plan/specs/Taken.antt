-- Which bytes are taken for a plan, and the plan that they are. Assumes nothing: these are definitions.
use Rattle.std.specs.Prelude.{ℕ, ◌/◌, Bool, true, false, List, [], length}
use Rattle.codec.specs.Codec.{Outcome, got, refused}
use Rattle.plan.specs.Layout.{Image, read_plan}

abbrev pub was_read : {A : Type 0} → Outcome A → Bool
was_read (got a j) = true
was_read (refused n p) = false

-- The things of a row that was read; none where it was refused.
abbrev pub things : {A : Type 0} → Outcome (List A) → List A
things (got l j) = l
things (refused n p) = []

unfoldable pub accepts : List ℕ → Bool
accepts xs = was_read (read_plan xs)

abbrev pub image_or : Image → Outcome Image → Image
image_or d (got i j) = i
image_or d (refused n p) = d

-- The plan with its memories that the bytes are; of bytes that are none, an empty one.
unfoldable pub image_in : List ℕ → Image
image_in xs = image_or (record { plan = record { system = 0; windows = []; channels = []; tasks = [] }; memories = [] }) (read_plan xs)

-- The pages of a memory.
abbrev pub pages_in : List ℕ → ℕ
pages_in m = length m / 4096
