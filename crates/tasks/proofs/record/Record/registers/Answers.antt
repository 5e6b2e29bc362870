use Rattle.std.proofs.Common.{◌+◌, ◌*◌, sym, ◌∙◌, arith}
use Rattle.octets.specs.Bytes.{at}
use Rattle.tasks.specs.Records.{run_at}
use Rattle.tasks.proofs.Records.{core_is, registers_read}
use Rattle.tasks.proofs.record.Record.registers.Goals as goal

pub returns : goal.returns
unfolding run_at
returns c =
    let r = c.args.self.now in
    record {
      value =
          c.of.ensures.value
          ∙ sym (core_is r.table.now r.number _ _ (sym c.read-2.ensures.value)
          (sym (registers_read c.loop-r.value-items (λ k. at 4 r.table.now (256 * r.number + 128 + 4 * k)) c.loop-r.invariant.0 (λ k h. c.loop-r.invariant.1 k (omega arith)))));
    }
