use Rattle.std.proofs.Common.{ap, ◌∙◌}
use Rattle.std.specs.List.{slice_get}
use Rattle.plan.proofs.Opened.{windows_there, windows_read}
use Rattle.plan.proofs.view.View.window.Goals as goal

pub nth-requires : goal.nth-requires
nth-requires c = let v = c.args.self.now in windows_there v.bytes.now v.sound c.header-h.result c.header-h.ensures.value

pub returns : goal.returns
returns c =
    let v = c.args.self.now in
    record { value = c.nth.ensures.value ∙ ap (λ l. slice_get l c.args.i) (windows_read v.bytes.now v.sound c.header-h.result c.header-h.ensures.value) }
