use Rattle.std.proofs.Common.{arith}
use Rattle.memory.proofs.Entries.{entries_more}
use Rattle.memory.proofs.tables.write_table.Goals as goal

pub loop-i-preserved : goal.loop-i-preserved
loop-i-preserved g c =
    entries_more c.loop-i.t c.write.new.b c.loop-i.i c.entry.result (goal.F-post g c.args.entry) c.write.ensures.after (omega arith) c.entry.type_inv c.entry.ensures c.loop-i.invariant
