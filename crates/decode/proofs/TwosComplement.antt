-- Two's complement there and back.
use Rattle.std.proofs.Common.{◌≡◌, ℕ, suc, ◌-◌, ◌*◌, ◌<◌, ◌≤◌, ltb, ℤ, pos, negsuc, ◌-ℤ◌, neg_ℤ, nat_abs, ◌≤ℤ◌, ◌<ℤ◌, ap, ◌∙◌, mod-eq_of_lt, arith}
use Rattle.std.specs.Int.{int_rem_euclid}
use Rattle.std.proofs.lemmas.Int.{ints}
use Rattle.std.proofs.lemmas.Bool.{cond_both, ltb-true, ltb-false, lt-ltb, le-ltb, cond-true, cond-false}
use Rattle.decode.specs.Fields.{signed}

module _ (half : ℕ) where
  minus : (n : ℕ) → n < 2 * half → pos n -ℤ pos (2 * half) ≡ negsuc (2 * half - suc n)
  minus n h = omega (arith, ints)

  pub low_of_signed : (n : ℕ) → n < 2 * half → nat_abs (int_rem_euclid (signed half n) (pos (2 * half))) ≡ n
  low_of_signed n h =
      cond_both (ltb n half) (pos n) (pos n -ℤ pos (2 * half)) (λ z. nat_abs (int_rem_euclid z (pos (2 * half))) ≡ n)
      (λ e. mod-eq_of_lt h)
      (λ e.
      ap (λ z. nat_abs (int_rem_euclid z (pos (2 * half)))) (minus n h)
      ∙ (let l : 2 * half - suc n < 2 * half = omega arith in
      ap (λ m. 2 * half - 1 - m) (mod-eq_of_lt l) ∙ omega arith))

  pub signed_of_low : (z : ℤ) → neg_ℤ (pos half) ≤ℤ z → z <ℤ pos half → signed half (nat_abs (int_rem_euclid z (pos (2 * half)))) ≡ z
  signed_of_low (pos n) a b =
      let h : n < half = omega (arith, ints) in
      let l : n < 2 * half = omega arith in
      ap (signed half) (mod-eq_of_lt l) ∙ cond-true (ltb n half) (pos n) (pos n -ℤ pos (2 * half)) (lt-ltb n half h)
  signed_of_low (negsuc n) a b =
      let h : n < half = omega (arith, ints) in
      let l : n < 2 * half = omega arith in
      let m : 2 * half - 1 - n < 2 * half = omega arith in
      ap (λ k. signed half (2 * half - 1 - k)) (mod-eq_of_lt l)
      ∙ cond-false (ltb (2 * half - 1 - n) half) (pos (2 * half - 1 - n)) (pos (2 * half - 1 - n) -ℤ pos (2 * half)) (le-ltb (2 * half - 1 - n) half (omega arith))
      ∙ minus (2 * half - 1 - n) m ∙ ap negsuc (omega arith)

  pub signed_least : (n : ℕ) → n < 2 * half → neg_ℤ (pos half) ≤ℤ signed half n
  signed_least n h =
      cond_both (ltb n half) (pos n) (pos n -ℤ pos (2 * half)) (λ z. neg_ℤ (pos half) ≤ℤ z) (λ e. omega (arith, ints))
      (λ e. let l : half ≤ n = ltb-false n half e in omega (arith, ints))

  pub signed_most : (n : ℕ) → n < 2 * half → signed half n <ℤ pos half
  signed_most n h =
      cond_both (ltb n half) (pos n) (pos n -ℤ pos (2 * half)) (λ z. z <ℤ pos half)
      (λ e. let l : n < half = ltb-true n half e in omega (arith, ints)) (λ e. omega (arith, ints))

  pub low_below : (z : ℤ) → 0 < half → nat_abs (int_rem_euclid z (pos (2 * half))) < 2 * half
  low_below (pos n) p = omega arith
  low_below (negsuc n) p = omega arith
