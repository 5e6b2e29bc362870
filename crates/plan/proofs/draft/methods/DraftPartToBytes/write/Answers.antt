use Rattle.std.proofs.Common.{◌≡◌, ap}
use Rattle.std.proofs.lemmas.Option.{MatchOption-at_some}
use Rattle.plan.specs.Given.{Fits}
use Rattle.plan.specs.Drafts.{given, head_bytes, head_of}
use Rattle.plan.proofs.Writing.{puts_both, puts_same}
use Rattle.plan.proofs.draft.methods.DraftPartToBytes.write.Goals as goal

pub returns : goal.returns
returns c =
    let p = c.args.self in
    let h = MatchOption-at_some (Fits (given p) → ⊥) (λ h. Fits (given p) × (h ≡ head_of p)) c.unwrap-head.result c.unwrap-head.ensures c.head.ensures.value in
    record { puts = puts_both (puts_same (ap head_bytes h.1) c.write-k.ensures.puts) c.write_all.ensures.puts }
