use Rattle.plan.proofs.Opened.{many_windows}
use Rattle.plan.proofs.view.View.windows.Goals as goal

pub returns : goal.returns
returns c =
    let v = c.args.self.now in
    record { value = many_windows v.bytes.now v.sound c.header.result c.header.ensures.value }
