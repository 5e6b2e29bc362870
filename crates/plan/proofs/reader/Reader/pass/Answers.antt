use Rattle.std.proofs.Common.{◌+◌, ◌-◌, sym, ap, ◌∙◌}
use Rattle.codec.specs.Codec.{times}
use Rattle.codec.proofs.Steps.{times_step}
use Rattle.plan.specs.Ends.{seen}
use Rattle.plan.proofs.reader.Reader.pass.Goals as goal

pub loop-i-preserved : goal.loop-i-preserved
loop-i-preserved g c =
    let k = g.R.FromBytes.codec c.args.around in
    let l = c.loop-i in
    let r = c.in_ok-read.ensures in (
      ap (λ xs. seen ((times (c.args.n - (l._i + 1)) k).read xs c.read.new.r.at)) r.bytes
          ∙ sym (times_step c.args.n l._i k (λ x. tt) l.r.bytes.now l.r.at _ _ c.loop-i-test.true (sym r.value))
          ∙ l.invariant.0,
      r.bytes ∙ l.invariant.1,
    )
