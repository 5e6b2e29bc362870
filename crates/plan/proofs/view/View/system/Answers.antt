use Rattle.plan.proofs.Opened.{system_is}
use Rattle.plan.proofs.view.View.system.Goals as goal

pub returns : goal.returns
returns c =
    let v = c.args.self.now in
    record { value = system_is v.bytes.now v.sound c.header.result c.header.ensures.value }
