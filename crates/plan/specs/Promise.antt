-- What is promised of plans as bytes. Each is a statement, whose proof is owed.
use Rattle.std.specs.Prelude.{◌≡◌, ℕ, ◌≤◌, Bool, List, length, Decides}
use Rattle.std.specs.List.{All, flat_map}
use Rattle.codec.specs.Codec.{got, Bytes}
use Rattle.plan.specs.Layout.{Image, read_plan, write_plan}
use Rattle.plan.specs.Bounds.{InBounds}
use Rattle.plan.specs.Given.{Given, Fits, image_from}

-- What is handed over is the plan, and can be written.
pub record Drafts (i : Image) (ps : List Given) : Type 0 where
  pub same : image_from i.plan.system i.plan.windows i.plan.channels ps ≡ i
  pub windows : length i.plan.windows ≤ 256
  pub channels : length i.plan.channels ≤ 128
  pub parts : length ps ≤ 32
  pub few : length (flat_map (λ p. p.tasks) ps) ≤ 512
  pub each : All Fits ps

-- Every plan in bounds is read from its bytes.
abbrev pub ReadsAll : Type 0
ReadsAll = (i : Image) → InBounds i → read_plan (write_plan i) ≡ got i (length (write_plan i))

-- What is read from bytes is in bounds, and these are its bytes.
abbrev pub WritesBack : Type 0
WritesBack = (xs : List ℕ) (i : Image) (j : ℕ) → Bytes xs → read_plan xs ≡ got i j → InBounds i × (write_plan i ≡ xs)

-- Taken are exactly the bytes of plans in bounds.
abbrev pub Exactly : List ℕ → Bool → Type 0
Exactly xs t = Decides t ((i : Image) × InBounds i × (write_plan i ≡ xs))

-- The plan that bytes are: in bounds, with these bytes, and no other.
pub record Says (xs : List ℕ) (i : Image) : Type 0 where
  pub bounds : InBounds i
  pub bytes : write_plan i ≡ xs
  pub only : (o : Image) → InBounds o → write_plan o ≡ xs → o ≡ i

-- Every plan in bounds can be handed over to be written.
abbrev pub DraftsAll : Type 0
DraftsAll = (i : Image) → InBounds i → (ps : List Given) × Drafts i ps
