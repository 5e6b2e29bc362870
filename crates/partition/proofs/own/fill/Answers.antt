use Rattle.std.proofs.Common.{◌≡◌, length, sym, ap, ◌∙◌, subst, arith}
use Rattle.memory.specs.Frames.{memory_of, Mapped}
use Rattle.memory.proofs.Frames.{memory_put_above, mapped_put, length-memory}
use Rattle.partition.proofs.Lays.{put_all}
use Rattle.partition.proofs.own.fill.Goals as goal

pub returns : goal.returns
returns c =
    let b = c.map.new.b in
    let m = c.args.memory.now in
    let room : length b ≡ length c.args.b.now = c.map.auto.b in
    record {
      memory = ap memory_of c.copy.ensures.after ∙ memory_put_above b m 0 (omega arith) ∙ put_all (memory_of b) m (omega (arith, length-memory b));
      mapped = subst Mapped (sym c.copy.ensures.after) (mapped_put b m 32768 (omega arith) (omega arith) c.map.ensures.mapped);
    }
