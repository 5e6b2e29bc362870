use Rattle.plan.proofs.Writing.{puts_both}
use Rattle.plan.proofs.write.ChannelToBytes.write.Goals as goal

pub returns : goal.returns
returns c = record { puts = puts_both c.put-k.ensures.puts (puts_both c.put-k-2.ensures.puts (puts_both c.put-k-3.ensures.puts c.put.ensures.puts)) }
