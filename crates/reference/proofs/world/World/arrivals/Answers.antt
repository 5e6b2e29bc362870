use Rattle.std.proofs.Common.{sym, ap, ◌∙◌}
use Rattle.std.proofs.lemmas.List.{drop_all}
use Rattle.model.specs.Tick.{came}
use Rattle.reference.specs.Whole.{view_of}
use Rattle.reference.proofs.world.World.arrivals.Goals as goal

pub returns-clause-value : goal.returns-clause-value
unfolding came
returns-clause-value c =
    λ s. sym (ap (λ zs. came zs (view_of c.loop-a.self s)) (drop_all c.loop-a.a-index c.args.row.now c.loop-a-test.false)) ∙ c.loop-a.invariant.0 s
