use Rattle.std.proofs.Common.{◌≡◌, min, sum, map, rules, ap, ◌∙◌}
use Rattle.model.specs.declared.plan.Window.{Window}
use Rattle.model.specs.World.{round}
use Rattle.reference.proofs.Turns.{sum_round, capped_at}
use Rattle.reference.proofs.turn.round_of.Goals as goal

pub returns : goal.returns
returns c =
    let ws = c.args.windows.now in
    let sums : c.sum-ticks.result ≡ sum (map (λ (w : Window). w.ticks) ws) = search rules in
    let total : c.sum-ticks.result ≡ round ws = sums ∙ sum_round ws in
    record { value = c.unwrap_or.ensures ∙ capped_at c.try_from.result c.sum-ticks.result c.try_from.ensures ∙ ap (λ n. min n 18446744073709551615) total }
