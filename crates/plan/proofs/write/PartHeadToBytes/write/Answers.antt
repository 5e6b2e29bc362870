use Rattle.plan.proofs.Writing.{puts_both}
use Rattle.plan.proofs.write.PartHeadToBytes.write.Goals as goal

pub returns : goal.returns
returns c = record { puts = puts_both c.put-k.ensures.puts c.put.ensures.puts }
