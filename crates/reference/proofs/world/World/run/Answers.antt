use Rattle.std.proofs.Common.{◌≡◌, ◌+◌, ◌<◌, [], ◌∷◌, map, length, take, drop, sym, refl, ap, ◌∙◌, arith}
use Rattle.std.proofs.lemmas.List.{drop_all, drop_more, length-map, get_or-map}
use Rattle.reference.specs.View.{after_all}
use Rattle.reference.specs.Whole.{view_of}
use Rattle.reference.proofs.Runs.{after_more, behind, run_more, run_all}
use Rattle.reference.proofs.world.World.run.Goals as goal

pub loop-k-init : goal.loop-k-init
unfolding after_all
loop-k-init c = (omega arith, (λ s. refl), refl, refl)

pub loop-k-preserved : goal.loop-k-preserved
loop-k-preserved c =
    let k = c.loop-k.k in
    let rows = map (λ row. row.now) c.args.rows.now in
    let here : k < length rows = omega (arith, c.loop-k-test.true, length-map c.args.rows.now (λ row. row.now)) in
    let place : k < length c.loop-k.shown = omega (arith, c.loop-k-test.true, c.loop-k.auto.shown) in (
      omega (arith, c.loop-k.invariant.0, c.advance.ensures.time),
      (λ s.
          run_more _ _ _ _ _ _ _ (drop (k + 1) rows) c.loop-k.invariant.2
          (ap (view_of c.advance.new.self) (after_more c.loop-k.shown k c.advance.result s place) ∙ c.advance.ensures.value (after_all s (take k c.loop-k.shown)))
          (drop_more rows k [] here ∙ ap (λ row. row ∷ drop (k + 1) rows) (get_or-map (λ row. row.now) c.args.rows.now k _ [] c.loop-k-test.true))
          (c.loop-k.invariant.1 s)),
      c.advance.ensures.plan ∙ c.loop-k.invariant.2,
      behind c.loop-k.shown c.args.shown.now k c.advance.result c.loop-k.invariant.3,
    )

pub returns-clause-value : goal.returns-clause-value
returns-clause-value c =
    let k = c.loop-k.k in
    let rows = map (λ row. row.now) c.args.rows.now in
    let all : k ≡ length c.args.rows.now = omega (arith, c.loop-k.auto.k-end, c.loop-k-test.false) in (
      (λ s.
          ap (λ n. view_of c.loop-k.self (after_all s (take n c.loop-k.shown))) (sym all)
          ∙ run_all _ _ _ _ (drop_all k rows (omega (arith, length-map c.args.rows.now (λ row. row.now)))) (c.loop-k.invariant.1 s)),
      ap (λ n. drop n c.loop-k.shown) (sym all) ∙ c.loop-k.invariant.3 ∙ ap (λ n. drop n c.args.shown.now) all,
    )
