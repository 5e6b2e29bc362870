use Rattle.plan.proofs.Opened.{many_channels}
use Rattle.plan.proofs.view.View.channels.Goals as goal

pub returns : goal.returns
returns c =
    let v = c.args.self.now in
    record { value = many_channels v.bytes.now v.sound c.header.result c.header.ensures.value }
