use Rattle.std.proofs.Common.{◌≡◌, ◌*◌, ◌≤◌, length, sym, ap, ◌∙◌, arith}
use Rattle.std.proofs.lemmas.Result.{err_from_is_err_and}
use Rattle.plan.specs.Refusals.{told}
use Rattle.plan.specs.Ends.{fits}
use Rattle.plan.proofs.Walk.{stop_header, stop_windows, stop_channels, stop_parts, past_parts}
use Rattle.plan.proofs.check.walk.Goals as goal

pub returns-in_err-h : goal.returns-in_err-h
returns-in_err-h c =
    let p = err_from_is_err_and c.from_residual.result c.from_residual.ensures.1 in
    rw (p.1, p.2) record { value = stop_header c.args.b.now _ _ c.in_err-h.ensures.value }

pub returns-in_err-pass : goal.returns-in_err-pass
returns-in_err-pass c =
    let p = err_from_is_err_and c.from_residual-in_err-pass.result c.from_residual-in_err-pass.ensures.1 in
    let h = c.in_ok-h in
    rw (p.1, p.2) record { value = stop_windows c.args.b.now h.h _ h.ensures.value _ h.ensures.bytes _ _ c.in_err-pass.ensures.value }

pub returns-in_err-pass-2 : goal.returns-in_err-pass-2
returns-in_err-pass-2 c =
    let p = err_from_is_err_and c.from_residual-in_err-pass-2.result c.from_residual-in_err-pass-2.ensures.1 in
    let h = c.in_ok-h in
    let w = c.in_ok-pass.ensures in
    let e = rw c.from.ensures at c.in_err-pass-2.ensures.value in
    rw (p.1, p.2)
    record { value = stop_channels c.args.b.now h.h _ h.ensures.value _ h.ensures.bytes _ w.value _ (w.bytes ∙ h.ensures.bytes) _ _ e }

pub returns-in_err-pages : goal.returns-in_err-pages
returns-in_err-pages c =
    let p = err_from_is_err_and c.from_residual-in_err-pages.result c.from_residual-in_err-pages.ensures.1 in
    let h = c.in_ok-h in
    let w = c.in_ok-pass.ensures in
    let v = rw c.from.ensures at c.in_ok-pass-2.ensures.value in
    let bw = w.bytes ∙ h.ensures.bytes in
    rw (p.1, p.2)
    record {
      value =
          stop_parts c.args.b.now h.h _ h.ensures.value _ h.ensures.bytes _ w.value _ bw _ v _ (c.in_ok-pass-2.ensures.bytes ∙ bw) _ _
          c.in_err-pages.ensures.reads.value;
    }

pub returns : goal.returns
returns c =
    let h = c.in_ok-h in
    let w = c.in_ok-pass.ensures in
    let v = rw c.from.ensures at c.in_ok-pass-2.ensures.value in
    let bw = w.bytes ∙ h.ensures.bytes in
    let bp = c.in_ok-pass-2.ensures.bytes ∙ bw in
    let be : c.pass_parts.new.self.bytes.now ≡ c.args.b.now = c.in_ok-pages.ensures.reads.bytes ∙ bp in
    let room : c.pass_parts.new.self.at ≤ length c.args.b.now = omega (arith, c.pass_parts.new.self.within, ap length be) in
    record {
      value =
          sym (ap (λ xs. told (length xs) c.memories_fit.result) be)
          ∙ c.memories_fit.ensures.value
          ∙ ap (λ xs. fits xs c.pass_parts.new.self.at (4096 * c.in_ok-pages.pages)) be
          ∙ past_parts c.args.b.now h.h _ h.ensures.value _ h.ensures.bytes _ w.value _ bw _ v _ bp _ _ room c.in_ok-pages.ensures.reads.value;
    }
