-- Where a name stands first. Assumes nothing.
use Rattle.std.specs.Prelude.{◌≡◌, ℕ, ◌<◌, List, length, Some, None, Option}
use Rattle.std.specs.List.{AllWithin, HoldsAt}

-- n, whose name is `text n`, has the name w
abbrev pub Is : {N : Type 0} → (N → List ℕ) → List ℕ → N → Type 0
Is text w n = text n ≡ w

-- none of the names below i is w
abbrev pub NotBelow : {N : Type 0} → (N → List ℕ) → List N → List ℕ → ℕ → Type 0
NotBelow text ns w i = AllWithin (λ n. Is text w n → ⊥) ns 0 i

-- the first of the names that is w, or none
abbrev pub First : {N : Type 0} → (N → List ℕ) → List N → List ℕ → Option ℕ → Type 0
First text ns w None = NotBelow text ns w (length ns)
First text ns w (Some i) = (i < length ns) × HoldsAt (Is text w) ns i × NotBelow text ns w i
