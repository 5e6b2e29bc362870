use Rattle.std.proofs.Common.{◌+◌, ◌-◌, refl, ap, ◌∙◌, arith}
use Rattle.std.proofs.lemmas.Result.{err_from_is_err_and}
use Rattle.codec.specs.Codec.{times, map_out}
use Rattle.plan.specs.Ends.{pages_of}
use Rattle.plan.specs.Layout.{partition}
use Rattle.plan.proofs.Walk.{parts_step, parts_stop}
use Rattle.plan.proofs.reader.Reader.pass_parts.Goals as goal

pub loop-i-preserved : goal.loop-i-preserved
loop-i-preserved c =
    let l = c.loop-i in
    let p = c.in_ok-pass_part in (
      ap (λ xs. map_out (λ ps. (l.pages + c.from.result) + pages_of ps) ((times (c.args.n - (l._i + 1)) partition).read xs c.pass_part.new.self.at)) p.ensures.bytes
          ∙ parts_step c.args.n l._i l.pages l.r.bytes.now l.r.at c.from.result c.pass_part.new.self.at c.loop-i-test.true (rw c.from.ensures p.ensures.value)
          ∙ l.invariant.0,
      p.ensures.bytes ∙ l.invariant.1,
      omega arith,
    )

pub returns-in_err-pass_part-clause-reads : goal.returns-in_err-pass_part-clause-reads
returns-in_err-pass_part-clause-reads c =
    let l = c.loop-i in
    let r = c.in_err-pass_part.ensures in
    let p = err_from_is_err_and c.from_residual.result c.from_residual.ensures.1 in
    rw (p.1, p.2)
    record {
      value = parts_stop c.args.n l._i l.pages l.r.bytes.now l.r.at _ _ c.loop-i-test.true r.value ∙ l.invariant.0;
      bytes = refl;
    }
