-- Bytes that stand at a place.
use Rattle.std.proofs.Common.{ℕ, ◌+◌, ◌<◌, ◌≤◌, List, ◌++◌, length, take, drop, sym, refl, ap, ◌∙◌, ⊎_elim, arith}
use Rattle.std.proofs.lemmas.List.{take-take, take_at, drop_at, drop-drop, drop-take, take-append-drop, length-append, length-take, length-drop, get_or-take, get_or-drop, get_or_past}
use Rattle.std.proofs.lemmas.Bool.{cases_lt}
use Rattle.codec.specs.Codec.{Bytes}
use Rattle.codec.specs.Lawful.{Stands}

pub stands_within : (ys xs : List ℕ) (k : ℕ) → k ≤ length xs → Stands ys xs k → k + length ys ≤ length xs
stands_within ys xs k h s = omega (arith, ap length s, length-take (length ys) (drop k xs), length-drop k xs)

pub stands_left : (us vs xs : List ℕ) (k : ℕ) → Stands (us ++ vs) xs k → Stands us xs k
stands_left us vs xs k s =
    sym (take-take (length us) (length (us ++ vs)) (drop k xs) (omega (arith, length-append us vs)))
    ∙ ap (take (length us)) s
    ∙ take_at us vs (length us) refl

pub stands_right : (us vs xs : List ℕ) (k : ℕ) → Stands (us ++ vs) xs k → Stands vs xs (k + length us)
stands_right us vs xs k s =
    ap (take (length vs)) (sym (drop-drop (length us) k xs))
    ∙ sym (drop-take (length us) (length vs) (drop k xs))
    ∙ ap (λ n. drop (length us) (take n (drop k xs))) (sym (length-append us vs))
    ∙ ap (drop (length us)) s
    ∙ drop_at us vs (length us) refl

pub stands_both : (us vs xs : List ℕ) (k : ℕ) → Stands us xs k → Stands vs xs (k + length us) → Stands (us ++ vs) xs k
stands_both us vs xs k s t =
    ap (λ n. take n (drop k xs)) (length-append us vs)
    ∙ sym (take-append-drop (length us) (take (length us + length vs) (drop k xs)))
    ∙ ap (λ zs. zs ++ drop (length us) (take (length us + length vs) (drop k xs)))
    (take-take (length us) (length us + length vs) (drop k xs) (omega arith) ∙ s)
    ∙ ap (λ zs. us ++ zs)
    (drop-take (length us) (length vs) (drop k xs) ∙ ap (take (length vs)) (drop-drop (length us) k xs) ∙ t)

pub bytes_part : (xs : List ℕ) (k n : ℕ) → Bytes xs → Bytes (take n (drop k xs))
bytes_part xs k n b i =
    ⊎_elim
    (λ (lt : i < n). omega (arith, b (k + i), get_or-take n (drop k xs) i 0 lt, get_or-drop k xs i 0))
    (λ (ge : n ≤ i). omega (arith, get_or_past (take n (drop k xs)) i 0 (omega (arith, length-take n (drop k xs)))))
    (cases_lt i n)
