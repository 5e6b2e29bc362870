-- Whose tick it is, window by window.
use Rattle.std.proofs.Common.{◌≡◌, ℕ, ◌+◌, ◌-◌, ◌%◌, ◌^◌, ◌<◌, ◌≤◌, Result, Ok, Err, min, cond, leb, ltb, List, [], ◌∷◌, length, map, fold, sum, get_or, drop, Some, None, sym, refl, ap, ◌∙◌, ⊎_elim, mod-eq_of_lt, arith, le-ltb, lt-ltb}
use Rattle.std.proofs.lemmas.List.{at_drop_more, at_drop_all}
use Rattle.std.proofs.lemmas.Bool.{cases_lt, cond-true, cond-false, lt-leb, le-leb}
use Rattle.std.proofs.lemmas.List.Sums.{sum-map, sum_by-cons}
use Rattle.std.specs.List.{sum_by}
use Rattle.std.specs.Bool.{then_some}
use Rattle.std.specs.Result.{OkIff, result_unwrap_or}
use Rattle.model.specs.declared.plan.Window.{Window}
use Rattle.model.specs.World.{round, turn_in}

abbrev pub no_window : Window
no_window = record { partition = 0; ticks = 0 }

-- The sum of the windows' ticks, which stops at a largest number.
pub fold_round : (most : ℕ) (ws : List Window) (a : ℕ) → a ≤ most → fold (λ s n. min (s + n) most) a (map (λ (w : Window). w.ticks) ws) ≡ min (a + round ws) most
unfolding round
fold_round most [] a h = omega arith
fold_round most (w ∷ ws) a h = fold_round most ws (min (a + w.ticks) most) (omega arith) ∙ omega arith

-- The sum of the windows' ticks.
abbrev ticks_of : Window → ℕ
ticks_of w = w.ticks

by_round : (ws : List Window) → sum_by ticks_of ws ≡ round ws
unfolding round
by_round [] = refl
by_round (w ∷ ws) = sum_by-cons ticks_of w ws ∙ ap (λ n. w.ticks + n) (by_round ws)

pub sum_round : (ws : List Window) → sum (map (λ (w : Window). w.ticks) ws) ≡ round ws
sum_round ws = sum-map ticks_of ws ∙ by_round ws

-- A number that does not fit is the largest that does.
pub capped_at : {E : Type 0} (r : Result ℕ E) (n : ℕ) → OkIff r (n < 18446744073709551616) n → result_unwrap_or r 18446744073709551615 ≡ min n 18446744073709551615
capped_at (Ok x) n h = omega (arith, h.0, h.1)
capped_at (Err e) n h = ⊎_elim (λ (l : n < 18446744073709551616). absurd (h l)) (λ (g : 18446744073709551616 ≤ n). omega arith) (cases_lt n 18446744073709551616)

module _ (s : ℕ) where
  -- The window at hand decides, or the tick lies behind it.
  pub turn_more :
      (ws : List Window) (i t : ℕ) → i < length ws
      → turn_in s (drop i ws) t ≡ cond (ltb t (get_or ws i no_window).ticks) (cond (ltb t s) None (Some (get_or ws i no_window).partition)) (turn_in s (drop (i + 1) ws) (t - (get_or ws i no_window).ticks))
  unfolding turn_in
  turn_more ws i t h = at_drop_more (λ xs. turn_in s xs t) ws i no_window h

  pub turn_behind : (ws : List Window) (i t : ℕ) → i < length ws → (get_or ws i no_window).ticks ≤ t → turn_in s (drop i ws) t ≡ turn_in s (drop (i + 1) ws) (t - (get_or ws i no_window).ticks)
  turn_behind ws i t h le = turn_more ws i t h ∙ cond-false _ _ _ (le-ltb t _ le)

  pub turn_here : (ws : List Window) (i t : ℕ) → i < length ws → t < (get_or ws i no_window).ticks → turn_in s (drop i ws) t ≡ then_some (leb s t) (get_or ws i no_window).partition
  turn_here ws i t h lt =
      turn_more ws i t h
      ∙ cond-true _ _ _ (lt-ltb t _ lt)
      ∙ ⊎_elim
      (λ (l : t < s). cond-true _ _ _ (lt-ltb t s l) ∙ ap (λ b. then_some b (get_or ws i no_window).partition) (sym (lt-leb s t l)))
      (λ (g : s ≤ t). cond-false _ _ _ (le-ltb t s g) ∙ ap (λ b. then_some b (get_or ws i no_window).partition) (sym (le-leb s t g)))
      (cases_lt t s)

  pub turn_all : (ws : List Window) (i t : ℕ) → length ws ≤ i → turn_in s (drop i ws) t ≡ None
  unfolding turn_in
  turn_all ws i t h = at_drop_all (λ xs. turn_in s xs t) ws i h

  -- In a round of no ticks no tick is anybody's.
  pub turn_empty : (ws : List Window) (t : ℕ) → round ws ≡ 0 → turn_in s ws t ≡ None
  unfolding turn_in round
  turn_empty [] t e = refl
  turn_empty (w ∷ ws) t e = cond-false _ _ _ (le-ltb t w.ticks (omega arith)) ∙ turn_empty ws (t - w.ticks) (omega arith)

-- A round too long for the machine's numbers is longer than the time.
pub within_round : (t n : ℕ) → t < 2 ^ 40 → t % min n 18446744073709551615 ≡ t % n
within_round t n h =
    ⊎_elim
    (λ (le : n < 18446744073709551615). let e : min n 18446744073709551615 ≡ n = omega arith in ap (λ m. t % m) e)
    (λ (ge : 18446744073709551615 ≤ n).
    let e : min n 18446744073709551615 ≡ 18446744073709551615 = omega arith in
    ap (λ m. t % m) e ∙ mod-eq_of_lt (omega arith) ∙ sym (mod-eq_of_lt (omega arith)))
    (cases_lt n 18446744073709551615)
