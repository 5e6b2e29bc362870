use Rattle.std.proofs.Common.{ap, ◌∙◌}
use Rattle.std.specs.List.{slice_get}
use Rattle.plan.proofs.Opened.{channels_there, channels_read}
use Rattle.plan.proofs.view.View.channel.Goals as goal

pub nth-requires : goal.nth-requires
nth-requires c =
    let v = c.args.self.now in
    rw (c.channels_from.ensures.value, c.from.ensures) (channels_there v.bytes.now v.sound c.header-h.result c.header-h.ensures.value)

pub returns : goal.returns
returns c =
    let v = c.args.self.now in
    let e = rw (c.channels_from.ensures.value, c.from.ensures, c.from-2.ensures) at c.nth.ensures.value in
    record { value = e ∙ ap (λ l. slice_get l c.args.i) (channels_read v.bytes.now v.sound c.header-h.result c.header-h.ensures.value) }
