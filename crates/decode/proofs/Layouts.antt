-- A word and its fields: where a word is assembled from fields, they are found in it, and a word is assembled from what
-- is found in it.
use Rattle.std.proofs.Common.{◌≡◌, ℕ, ◌+◌, ◌*◌, ◌/◌, ◌%◌, ◌^◌, ◌<◌, sym, ap, ◌∙◌}
use Rattle.std.proofs.lemmas.Nat.{shr-shr, shr_split, shr_high, mod_low}

-- What stands from bit j on is what stands from bit j + k on, and k bits.
pub split : (w j k : ℕ) → w / 2 ^ j ≡ w / 2 ^ (j + k) * 2 ^ k + w / 2 ^ j % 2 ^ k
split w j k = sym (rw shr-shr at (shr_split (w / 2 ^ j) k))

above : (w j k hi lo : ℕ) → w / 2 ^ j ≡ hi * 2 ^ k + lo → lo < 2 ^ k → w / 2 ^ (j + k) ≡ hi
above w j k hi lo e h = sym (shr-shr w j k) ∙ ap (λ n. n / 2 ^ k) e ∙ shr_high hi k lo h

here : (w j k hi lo : ℕ) → w / 2 ^ j ≡ hi * 2 ^ k + lo → lo < 2 ^ k → w / 2 ^ j % 2 ^ k ≡ lo
here w j k hi lo e h = ap (λ n. n % 2 ^ k) e ∙ mod_low hi k lo h

-- An opcode, a register, and 20 bits.
pub record InU (w u d o : ℕ) : Type 0 where
  pub opcode : w % 2 ^ 7 ≡ o
  pub rd : w / 2 ^ 7 % 2 ^ 5 ≡ d
  pub rest : w / 2 ^ 12 ≡ u

pub found_U : (w u d o : ℕ) → w ≡ (u * 2 ^ 5 + d) * 2 ^ 7 + o → d < 2 ^ 5 → o < 2 ^ 7 → InU w u d o
found_U w u d o e hd ho =
    let a : w / 2 ^ 7 ≡ u * 2 ^ 5 + d = ap (λ n. n / 2 ^ 7) e ∙ shr_high (u * 2 ^ 5 + d) 7 o ho in
    record {
      opcode = ap (λ n. n % 2 ^ 7) e ∙ mod_low (u * 2 ^ 5 + d) 7 o ho;
      rd = here w 7 5 u d a hd;
      rest = above w 7 5 u d a hd;
    }

pub made_U : (w : ℕ) → w ≡ (w / 2 ^ 12 * 2 ^ 5 + w / 2 ^ 7 % 2 ^ 5) * 2 ^ 7 + w % 2 ^ 7
made_U w = sym (shr_split w 7) ∙ ap (λ n. n * 2 ^ 7 + w % 2 ^ 7) (split w 7 5)

-- Above bit 12, 3 bits, a register, and 12 bits.
pub record InI (w n a f : ℕ) : Type 0 where
  pub funct3 : w / 2 ^ 12 % 2 ^ 3 ≡ f
  pub rs1 : w / 2 ^ 15 % 2 ^ 5 ≡ a
  pub rest : w / 2 ^ 20 ≡ n

pub found_I : (w n a f : ℕ) → w / 2 ^ 12 ≡ (n * 2 ^ 5 + a) * 2 ^ 3 + f → a < 2 ^ 5 → f < 2 ^ 3 → InI w n a f
found_I w n a f e ha hf =
    let b : w / 2 ^ 15 ≡ n * 2 ^ 5 + a = above w 12 3 (n * 2 ^ 5 + a) f e hf in
    record { funct3 = here w 12 3 (n * 2 ^ 5 + a) f e hf; rs1 = here w 15 5 n a b ha; rest = above w 15 5 n a b ha }

pub made_I : (w : ℕ) → w / 2 ^ 12 ≡ (w / 2 ^ 20 * 2 ^ 5 + w / 2 ^ 15 % 2 ^ 5) * 2 ^ 3 + w / 2 ^ 12 % 2 ^ 3
made_I w = split w 12 3 ∙ ap (λ n. n * 2 ^ 3 + w / 2 ^ 12 % 2 ^ 3) (split w 15 5)

-- Above bit 20, a register and 7 bits.
pub record InR (w g b : ℕ) : Type 0 where
  pub rs2 : w / 2 ^ 20 % 2 ^ 5 ≡ b
  pub rest : w / 2 ^ 25 ≡ g

pub found_R : (w g b : ℕ) → w / 2 ^ 20 ≡ g * 2 ^ 5 + b → b < 2 ^ 5 → InR w g b
found_R w g b e hb = record { rs2 = here w 20 5 g b e hb; rest = above w 20 5 g b e hb }

pub made_R : (w : ℕ) → w / 2 ^ 20 ≡ w / 2 ^ 25 * 2 ^ 5 + w / 2 ^ 20 % 2 ^ 5
made_R w = split w 20 5

-- A branch has its rd and its funct7 in two parts each.
pub record InB (w t h l e : ℕ) : Type 0 where
  pub bit11 : w / 2 ^ 7 % 2 ^ 1 ≡ e
  pub low : w / 2 ^ 8 % 2 ^ 4 ≡ l
  pub middle : w / 2 ^ 25 % 2 ^ 6 ≡ h
  pub top : w / 2 ^ 31 ≡ t

pub found_B :
    (w t h l e x : ℕ) → w / 2 ^ 25 ≡ t * 2 ^ 6 + h → w / 2 ^ 7 ≡ (x * 2 ^ 4 + l) * 2 ^ 1 + e → h < 2 ^ 6 → l < 2 ^ 4
    → e < 2 ^ 1 → InB w t h l e
found_B w t h l e x p q hh hl he =
    record {
      bit11 = here w 7 1 (x * 2 ^ 4 + l) e q he;
      low = here w 8 4 x l (above w 7 1 (x * 2 ^ 4 + l) e q he) hl;
      middle = here w 25 6 t h p hh;
      top = above w 25 6 t h p hh;
    }

pub made_B_high : (w : ℕ) → w / 2 ^ 25 ≡ w / 2 ^ 31 * 2 ^ 6 + w / 2 ^ 25 % 2 ^ 6
made_B_high w = split w 25 6

pub made_B_low : (w : ℕ) → w / 2 ^ 7 ≡ (w / 2 ^ 12 * 2 ^ 4 + w / 2 ^ 8 % 2 ^ 4) * 2 ^ 1 + w / 2 ^ 7 % 2 ^ 1
made_B_low w = split w 7 1 ∙ ap (λ n. n * 2 ^ 1 + w / 2 ^ 7 % 2 ^ 1) (split w 8 4)

-- A jump has its 20 bits in four parts.
pub record InJ (w t h e l : ℕ) : Type 0 where
  pub low : w / 2 ^ 12 % 2 ^ 8 ≡ l
  pub bit11 : w / 2 ^ 20 % 2 ^ 1 ≡ e
  pub middle : w / 2 ^ 21 % 2 ^ 10 ≡ h
  pub top : w / 2 ^ 31 ≡ t

pub found_J :
    (w t h e l : ℕ) → w / 2 ^ 12 ≡ ((t * 2 ^ 10 + h) * 2 ^ 1 + e) * 2 ^ 8 + l → h < 2 ^ 10 → e < 2 ^ 1 → l < 2 ^ 8 → InJ w t h e l
found_J w t h e l p hh he hl =
    let a : w / 2 ^ 20 ≡ (t * 2 ^ 10 + h) * 2 ^ 1 + e = above w 12 8 ((t * 2 ^ 10 + h) * 2 ^ 1 + e) l p hl in
    let b : w / 2 ^ 21 ≡ t * 2 ^ 10 + h = above w 20 1 (t * 2 ^ 10 + h) e a he in
    record {
      low = here w 12 8 ((t * 2 ^ 10 + h) * 2 ^ 1 + e) l p hl;
      bit11 = here w 20 1 (t * 2 ^ 10 + h) e a he;
      middle = here w 21 10 t h b hh;
      top = above w 21 10 t h b hh;
    }

pub made_J :
    (w : ℕ) → w / 2 ^ 12
    ≡ ((w / 2 ^ 31 * 2 ^ 10 + w / 2 ^ 21 % 2 ^ 10) * 2 ^ 1 + w / 2 ^ 20 % 2 ^ 1) * 2 ^ 8 + w / 2 ^ 12 % 2 ^ 8
made_J w =
    split w 12 8
    ∙ ap (λ n. n * 2 ^ 8 + w / 2 ^ 12 % 2 ^ 8) (split w 20 1 ∙ ap (λ n. n * 2 ^ 1 + w / 2 ^ 20 % 2 ^ 1) (split w 21 10))
