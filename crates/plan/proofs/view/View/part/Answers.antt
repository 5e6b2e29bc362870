use Rattle.std.proofs.Common.{sym, ap, ◌∙◌, arith}
use Rattle.plan.specs.Refusals.{told}
use Rattle.plan.specs.Layout.{part_head}
use Rattle.plan.proofs.Opened.{many_partitions, many_memories, head_ok, part_is}
use Rattle.plan.proofs.view.View.part.Goals as goal

pub returns-then-q-h : goal.returns-then-q-h
returns-then-q-h c =
    let v = c.args.self.now in
    let n = many_partitions v.bytes.now v.sound c.header-h.result c.header-h.ensures.value in
    let m = many_memories v.bytes.now v.sound c.header-h.result c.header-h.ensures.value in
    record { value = (omega arith, omega arith) }

pub unwrap-head-requires : goal.unwrap-head-requires
unwrap-head-requires c =
    let v = c.args.self.now in
    let p = c.passed-before in
    let e = c.read.ensures.value ∙ ap (λ xs. part_head.read xs p.result.1.at) p.ensures.bytes in
    head_ok v.bytes.now v.sound c.header-h.result c.header-h.ensures.value c.args.q p.result.0 p.result.1.at c.if-q-h.false p.ensures.value _ c.read.result e

pub returns : goal.returns
returns c =
    let v = c.args.self.now in
    let p = c.passed-before in
    let e = ap (told c.read.new.r.at) (sym c.unwrap-head.ensures) ∙ c.read.ensures.value ∙ ap (λ xs. part_head.read xs p.result.1.at) p.ensures.bytes in
    record {
      value =
          part_is v.bytes.now v.sound c.header-h.result c.header-h.ensures.value c.args.q p.result.0 p.result.1.at c.if-q-h.false p.ensures.value c.unwrap-head.result
          c.read.new.r.at e;
    }
