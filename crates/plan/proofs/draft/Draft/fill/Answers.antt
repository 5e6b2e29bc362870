use Rattle.plan.proofs.Writing.{puts_both}
use Rattle.plan.proofs.draft.Draft.fill.Goals as goal

pub returns : goal.returns
returns c =
    record {
      puts =
          puts_both c.write-from_windows.ensures.puts
          (puts_both c.write_all-from_channels.ensures.puts
          (puts_both c.write_all-from_parts.ensures.puts (puts_both c.write_all-from_memories.ensures.puts c.write_memories.ensures.puts)));
    }
