use Rattle.plan.proofs.Opened.{many_partitions}
use Rattle.plan.proofs.view.View.partitions.Goals as goal

pub returns : goal.returns
returns c =
    let v = c.args.self.now in
    record { value = many_partitions v.bytes.now v.sound c.header.result c.header.ensures.value }
