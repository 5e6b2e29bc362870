use Rattle.std.proofs.Common.{◌*◌, ◌≤◌, sym, ap, ◌∙◌, arith}
use Rattle.std.proofs.lemmas.Result.{IfOk-at_ok}
use Rattle.plan.specs.Refusals.{told}
use Rattle.plan.proofs.Opened.{passed_ok, parts_there}
use Rattle.plan.proofs.view.View.passed.Goals as goal

pub invariant_of-r : goal.invariant_of-r
invariant_of-r c =
    let v = c.args.self.now in
    let t = parts_there v.bytes.now v.sound c.args.h c.requires.header in
    record { within = omega (arith, c.parts_from.ensures.value) }

pub unwrap-pages-requires : goal.unwrap-pages-requires
unwrap-pages-requires c =
    let v = c.args.self.now in
    let e = rw c.parts_from.ensures.value at c.pass_parts.ensures.reads.value in
    passed_ok v.bytes.now v.sound c.args.h c.requires.header c.args.n _ c.pass_parts.result c.requires.there e

pub returns : goal.returns
returns c =
    let e = rw c.parts_from.ensures.value at c.pass_parts.ensures.reads.value in
    record {
      bytes = c.pass_parts.ensures.reads.bytes;
      value = ap (told c.pass_parts.new.self.at) (sym c.unwrap-pages.ensures) ∙ e;
      bound = IfOk-at_ok (λ n. n ≤ 65535 * 255) c.unwrap-pages.ensures c.pass_parts.ensures.bound;
    }
