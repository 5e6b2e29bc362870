use Rattle.std.proofs.Common.{rules, length, sym, ap, ◌∙◌, arith}
use Rattle.plan.specs.Sizes.{row_byte_size, arrival_size}
use Rattle.plan.specs.Rows.{arrival, takes_row}
use Rattle.plan.proofs.Nth.{passed_to}
use Rattle.plan.proofs.rows.row_end.Goals as goal

pub returns-clause-room : goal.returns-clause-room
returns-clause-room c =
    let n = c.in_ok-n in
    let p = c.in_ok-pass.ensures in
    let one = (row_byte_size 255).ends c.args.b.now c.args.k _ n.n (sym n.ensures.value) in
    let rest = passed_to (arrival c.args.partitions) 2 (arrival_size c.args.partitions) c.row_byte.new.r.bytes.now c.from.result c.row_byte.new.r.at _ p.value in
    omega (arith, one, rest, c.pass.new.self.within, ap length (p.bytes ∙ n.ensures.bytes))

pub returns-clause-taken : goal.returns-clause-taken
unfolding takes_row
returns-clause-taken c = search rules
