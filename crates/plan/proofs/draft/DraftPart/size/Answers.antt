use Rattle.std.proofs.Common.{arith}
use Rattle.plan.proofs.Drafted.{part_length}
use Rattle.plan.proofs.draft.DraftPart.size.Goals as goal

pub returns-clause-value : goal.returns-clause-value
returns-clause-value c = let n = part_length c.args.self.now in (c.in_ok-_head.ensures.value.0, omega arith)
