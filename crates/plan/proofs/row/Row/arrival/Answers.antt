use Rattle.std.proofs.Common.{ap, ◌∙◌, arith}
use Rattle.std.specs.List.{slice_get}
use Rattle.plan.specs.Rows.{row_in}
use Rattle.plan.proofs.Arrivals.{row_there, arrivals_there, arrivals_are}
use Rattle.plan.proofs.row.Row.arrival.Goals as goal

pub overflow_add-self : goal.overflow_add-self
overflow_add-self c =
    let s = c.args.self.now in
    let t = row_there s.partitions s.bytes.now s.at s.sound in
    omega arith

pub nth-requires : goal.nth-requires
nth-requires c =
    let s = c.args.self.now in
    let n = c.from.ensures ∙ c.len-n.ensures.value in
    arrivals_there s.partitions s.bytes.now s.at s.sound c.from.result n

pub returns : goal.returns
returns c =
    let s = c.args.self.now in
    let n = c.from.ensures ∙ c.len-n.ensures.value in
    record {
      value =
          c.nth.ensures.value
          ∙ ap (λ l. slice_get l c.from-2.result) (arrivals_are s.partitions s.bytes.now s.at s.sound c.from.result n)
          ∙ ap (slice_get (row_in s.partitions s.bytes.now s.at)) c.from-2.ensures;
    }
