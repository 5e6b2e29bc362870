use Rattle.std.proofs.Common.{◌≡◌, ◌+◌, ◌-◌, ◌*◌, length, ◌∙◌, arith}
use Rattle.memory.specs.Frames.{frame}
use Rattle.memory.proofs.Frames.{lent_only, length-frame}
use Rattle.memory.proofs.block_mut.BlockMut.with_frame.Goals as goal

pub returns-clause-only : goal.returns-clause-only
unfolding frame
returns-clause-only g c =
    let b = c.args.self.now.bytes.now in
    let m = c.args.self.now.mapped in
    let e : length c.write.new.arg2 ≡ 4096 = c.write.auto.arg2 ∙ length-frame c.args.n b (omega (arith, m.whole)) in
    lent_only c.args.n b c.write.new.arg2 (4096 * c.args.n + 4096 - 4096 * c.args.n) m c.requires.behind c.requires.control e (omega arith)
