-- What `says` does at one byte of a word and at its end, and how a digit more keeps a cap. Assumes nothing.
use Rattle.std.proofs.Common.{◌≡◌, ℕ, ◌+◌, ◌*◌, ◌<◌, ◌≤◌, min, Bool, true, false, cond, eqb, ltb, List, [], ◌∷◌, length, get_or, drop, Some, None, Option, refl, ap, ◌∙◌, add-one, sym, arith, drop-cons, lt-ltb, ne_eqb}
use native.Mathlib.Nat.{min-eq_left, min-le_right}
use lib.Seq.{drop-length}
use Rattle.std.specs.Char.{digit_value}
use Rattle.plantext.specs.Numerals.{says, capped}

pub says_at : (w : List ℕ) (i base t : ℕ) (q : Bool) → i < length w
    → says (drop i w) base t q
    ≡ cond (eqb (get_or w i 0) 95) (cond q None (says (drop (i + 1) w) base t true))
    (cond (ltb (digit_value (get_or w i 0)) base) (says (drop (i + 1) w) base (t * base + digit_value (get_or w i 0)) false) None)
unfolding says
says_at w i base t q h = ap (λ l. says l base t q) (drop-cons w i 0 h ∙ ap (λ n. get_or w i 0 ∷ drop n w) (sym (add-one i)))

pub says_end : (w : List ℕ) (i base t : ℕ) (q : Bool) → i ≡ length w → says (drop i w) base t q ≡ cond q None (Some t)
unfolding says
says_end w i base t q e = ap (λ l. says l base t q) (ap (λ n. drop n w) e ∙ drop-length w)

-- a digit more behind a capped number
pub cap_digit : (u base d : ℕ) → 1 ≤ base → min (min u 4294967296 * base + d) 4294967296 ≡ min (u * base + d) 4294967296
cap_digit u base d some = grind arith

-- two numbers with one cap, in one more digit
cap_more : (t u base d : ℕ) → 1 ≤ base → min t 4294967296 ≡ min u 4294967296 → min (t * base + d) 4294967296 ≡ min (u * base + d) 4294967296
cap_more t u base d some e =
    sym (cap_digit t base d some) ∙ ap (λ n. min (n * base + d) 4294967296) e ∙ cap_digit u base d some

-- the two ways of a byte that is no `_`
digit_way : (l : Bool) (x y : Option ℕ) → capped x ≡ capped y → capped (cond l x None) ≡ capped (cond l y None)
digit_way true x y e = e
digit_way false x y e = refl

-- and those of any byte
line_way : (l q : Bool) (x y v w : Option ℕ) → capped x ≡ capped y → capped v ≡ capped w → capped (cond l (cond q None x) v) ≡ capped (cond l (cond q None y) w)
line_way true true x y v w e f = refl
line_way true false x y v w e f = e
line_way false q x y v w e f = f

-- so a cap on what was said keeps the cap of all that follow
pub cap_says : (bs : List ℕ) (base t u : ℕ) (q : Bool) → 1 ≤ base → min t 4294967296 ≡ min u 4294967296 → capped (says bs base t q) ≡ capped (says bs base u q)
unfolding says
cap_says [] base t u true some e = refl
cap_says [] base t u false some e = ap Some e
cap_says (b ∷ bs) base t u q some e =
    line_way (eqb b 95) q _ _ _ _ (cap_says bs base t u true some e)
    (digit_way (ltb (digit_value b) base) _ _ (cap_says bs base _ _ false some (cap_more t u base (digit_value b) some e)))

-- at a digit at the place i of a word
module _ (w : List ℕ) (i base t : ℕ) (q : Bool) (in-w : i < length w) where
  pub at_digit : 1 ≤ base → (get_or w i 0 ≡ 95 → ⊥) → digit_value (get_or w i 0) < base → capped (says (drop i w) base t q) ≡ capped (says (drop (i + 1) w) base (min (t * base + digit_value (get_or w i 0)) 4294967296) false)
  at_digit some ne l =
      let n = t * base + digit_value (get_or w i 0) in
      rw (says_at w i base t q in-w, ne_eqb (get_or w i 0) 95 ne, lt-ltb (digit_value (get_or w i 0)) base l)
      (sym (cap_says (drop (i + 1) w) base (min n 4294967296) n false some (min-eq_left (min-le_right n 4294967296))))

pub ruleset digit_steps = (says_at, says_end)
