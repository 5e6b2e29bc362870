use Rattle.std.proofs.Common.{◌≡◌, ◌+◌, ◌*◌, ◌≤◌, length, refl, ap, ◌∙◌, arith}
use Rattle.plan.proofs.Nth.{nth_past, nth_there, nth_is}
use Rattle.plan.proofs.record.nth.Goals as goal

pub returns-then-i-n : goal.returns-then-i-n
returns-then-i-n g c =
    let m = g.R.FromBytes in
    record { value = nth_past (m.codec c.args.around) m.SIZE (g.met.R.FromBytes.sized c.args.around) c.args.b.now c.args.n c.args.from c.requires c.args.i c.if-i-n.true }

pub overflow_mul-r : goal.overflow_mul-r
overflow_mul-r g c =
    let m = g.R.FromBytes in
    let t = nth_there (m.codec c.args.around) m.SIZE (g.met.R.FromBytes.sized c.args.around) c.args.b.now c.args.n c.args.from c.requires c.args.i c.if-i-n.false in
    rw (c.SIZE.ensures, c.from.ensures) (omega arith)

pub overflow_add-r : goal.overflow_add-r
overflow_add-r g c =
    let m = g.R.FromBytes in
    let t = nth_there (m.codec c.args.around) m.SIZE (g.met.R.FromBytes.sized c.args.around) c.args.b.now c.args.n c.args.from c.requires c.args.i c.if-i-n.false in
    rw (c.SIZE.ensures, c.from.ensures) (omega arith)

pub invariant_of-r : goal.invariant_of-r
invariant_of-r g c =
    let m = g.R.FromBytes in
    let t = nth_there (m.codec c.args.around) m.SIZE (g.met.R.FromBytes.sized c.args.around) c.args.b.now c.args.n c.args.from c.requires c.args.i c.if-i-n.false in
    let w : c.args.from + c.SIZE.result * c.from.result ≤ length c.args.b.now = rw (c.SIZE.ensures, c.from.ensures) (omega arith) in
    record { within = w }

pub returns : goal.returns
returns g c =
    let m = g.R.FromBytes in
    let at : c.args.from + c.SIZE.result * c.from.result ≡ c.args.from + m.SIZE * c.args.i = rw (c.SIZE.ensures, c.from.ensures) refl in
    record {
      value =
          c.ok.ensures.value
          ∙ nth_is (m.codec c.args.around) m.SIZE (g.met.R.FromBytes.sized c.args.around) c.args.b.now c.args.n c.args.from c.requires c.args.i _ c.read.result c.if-i-n.false
          (c.read.ensures.value ∙ ap ((m.codec c.args.around).read c.args.b.now) at);
    }
