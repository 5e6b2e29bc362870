use Rattle.std.proofs.Common.{◌≡◌, ℕ, ◌+◌, ◌*◌, min, map, take, length, fold, rules, ap, ◌∙◌, arith}
use Rattle.std.proofs.lemmas.List.{take_min}
use Rattle.reference.proofs.Places.{fold_place}
use Rattle.reference.proofs.place.beginning.Goals as goal

pub returns : goal.returns
returns c =
    let most : ℕ = 18446744073709551615 in
    let ps = c.args.pages.now in
    let folds : c.fold.result ≡ fold (λ s n. min (s + n) most) 0 (map (λ n. n * 4096) (take (min c.args.q (length ps)) ps)) = search rules in
    record { value = folds ∙ ap (λ ns. fold (λ s n. min (s + n) most) 0 (map (λ n. n * 4096) ns)) (take_min c.args.q ps) ∙ fold_place most ps c.args.q 0 (omega arith) ∙ omega arith }
