use Rattle.plan.proofs.Opened.{header_ok}
use Rattle.plan.proofs.view.View.header.Goals as goal

pub unwrap-requires : goal.unwrap-requires
unwrap-requires c = header_ok c.args.self.now.bytes.now c.args.self.now.sound _ c.header.result c.header.ensures.value
