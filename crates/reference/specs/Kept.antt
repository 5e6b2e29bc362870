-- What a row holds. Assumes nothing: these are definitions.
use Rattle.std.specs.Prelude.{ℕ, List, take}
use Rattle.reference.specs.declared.kept.Kept.{Kept}

unfoldable pub held : {T : Type 0} {N : ℕ} → Kept T N → List T
held k = take k.count k.things.items
