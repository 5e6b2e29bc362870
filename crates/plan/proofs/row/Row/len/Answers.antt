use Rattle.std.proofs.Common.{sym, ap, ◌∙◌, arith}
use Rattle.plan.specs.Refusals.{told}
use Rattle.plan.proofs.Arrivals.{row_there, count_ok, count_is}
use Rattle.plan.proofs.row.Row.len.Goals as goal

pub invariant_of-r : goal.invariant_of-r
invariant_of-r c =
    let s = c.args.self.now in
    let t = row_there s.partitions s.bytes.now s.at s.sound in
    record { within = omega arith }

pub unwrap-requires : goal.unwrap-requires
unwrap-requires c =
    let s = c.args.self.now in
    count_ok s.partitions s.bytes.now s.at s.sound _ c.row_byte.result c.row_byte.ensures.value

pub returns : goal.returns
returns c =
    let s = c.args.self.now in
    record {
      value =
          count_is s.partitions s.bytes.now s.at s.sound c.unwrap.result c.row_byte.new.r.at
          (ap (told c.row_byte.new.r.at) (sym c.unwrap.ensures) ∙ c.row_byte.ensures.value);
    }
