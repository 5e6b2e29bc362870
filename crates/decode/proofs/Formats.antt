-- A word is what its fields assemble to, in each format; and where it is assembled in a format, they are its fields.
use Rattle.std.proofs.Common.{◌≡◌, ℕ, ◌+◌, ◌*◌, ◌/◌, ◌%◌, ◌^◌, ◌<◌, ℤ, ap, ◌∙◌, arith}
use Rattle.decode.specs.declared.reg.Reg.{Reg}
use Rattle.decode.specs.Fields.{reg_of, signed, opcode_of, rd_of, funct3_of, rs1_of, rs2_of, funct7_of, amount_of, immediate_i, immediate_s, immediate_b, immediate_u, immediate_j}
use Rattle.decode.specs.Encodes.{low_bits, bits, FormatR, FormatI, FormatShift, FormatS, FormatB, FormatU, FormatJ}
use Rattle.decode.proofs.SameRegister.{same_register}
use Rattle.decode.proofs.Layouts.{split, found_U, made_U, found_I, made_I, found_R, made_R, found_B, made_B_high, made_B_low, found_J, made_J}
use Rattle.decode.proofs.TwosComplement.{low_of_signed, signed_of_low, signed_least, signed_most, low_below}

-- The bits of an immediate that is put together from parts, and such an immediate from its bits.
parts_b : (t e h l n : ℕ) → n ≡ t * 2 ^ 12 + e * 2 ^ 11 + h * 2 ^ 5 + l * 2 → t < 2 → e < 2 → h < 2 ^ 6 → l < 2 ^ 4
    → (n % 2 ≡ 0) × (bits 12 1 n ≡ t) × (bits 11 1 n ≡ e) × (bits 5 6 n ≡ h) × (bits 1 4 n ≡ l)
parts_b t e h l n q ht he hh hl = (omega arith, omega arith, omega arith, omega arith, omega arith)

whole_b : (n : ℕ) → n < 2 ^ 13 → n % 2 ≡ 0
    → bits 12 1 n * 2 ^ 12 + bits 11 1 n * 2 ^ 11 + bits 5 6 n * 2 ^ 5 + bits 1 4 n * 2 ≡ n
whole_b n h e = omega (arith, split n 1 4, split n 5 6, split n 11 1)

parts_j : (t l e h n : ℕ) → n ≡ t * 2 ^ 20 + l * 2 ^ 12 + e * 2 ^ 11 + h * 2 → t < 2 → l < 2 ^ 8 → e < 2 → h < 2 ^ 10
    → (n % 2 ≡ 0) × (bits 20 1 n ≡ t) × (bits 12 8 n ≡ l) × (bits 11 1 n ≡ e) × (bits 1 10 n ≡ h)
parts_j t l e h n q ht hl he hh = (omega arith, omega arith, omega arith, omega arith, omega arith)

whole_j : (n : ℕ) → n < 2 ^ 21 → n % 2 ≡ 0
    → bits 20 1 n * 2 ^ 20 + bits 12 8 n * 2 ^ 12 + bits 11 1 n * 2 ^ 11 + bits 1 10 n * 2 ≡ n
whole_j n h e = omega (arith, split n 1 10, split n 11 1, split n 12 8)

-- The same layouts, over what stands in each place.
lay_i : (w n : ℕ) → n ≡ w / 2 ^ 20
    → w ≡ ((((0 + n) * 32 + w / 2 ^ 15 % 32) * 8 + w / 2 ^ 12 % 8) * 32 + w / 2 ^ 7 % 32) * 128 + w % 128
lay_i w n e = omega (arith, made_U w, made_I w)

lay_s : (w g d : ℕ) → g ≡ w / 2 ^ 25 → d ≡ w / 2 ^ 7 % 32
    → w ≡ (((((0 + g) * 32 + w / 2 ^ 20 % 32) * 32 + w / 2 ^ 15 % 32) * 8 + w / 2 ^ 12 % 8) * 32 + d) * 128 + w % 128
lay_s w g d p q = omega (arith, made_U w, made_I w, made_R w)

lay_b : (w t h l e : ℕ) → t ≡ w / 2 ^ 31 → h ≡ w / 2 ^ 25 % 2 ^ 6 → l ≡ w / 2 ^ 8 % 2 ^ 4 → e ≡ w / 2 ^ 7 % 2
    → w ≡ (((((((0 + t) * 64 + h) * 32 + w / 2 ^ 20 % 32) * 32 + w / 2 ^ 15 % 32) * 8 + w / 2 ^ 12 % 8) * 16 + l) * 2 + e) * 128 + w % 128
lay_b w t h l e p q r s = omega (arith, made_U w, made_I w, made_R w, made_B_high w, made_B_low w)

lay_j : (w t h e l : ℕ) → t ≡ w / 2 ^ 31 → h ≡ w / 2 ^ 21 % 2 ^ 10 → e ≡ w / 2 ^ 20 % 2 → l ≡ w / 2 ^ 12 % 2 ^ 8
    → w ≡ (((((0 + t) * 1024 + h) * 2 + e) * 256 + l) * 32 + w / 2 ^ 7 % 32) * 128 + w % 128
lay_j w t h e l p q r s = omega (arith, made_U w, made_J w)

module _ (w : ℕ) (fits : w < 2 ^ 32) where
  pub made_format_U : FormatU (immediate_u w) (rd_of w) (opcode_of w) w
  made_format_U = (omega arith, omega (arith, made_U w))

  pub made_format_R : FormatR (funct7_of w) (rs2_of w) (rs1_of w) (funct3_of w) (rd_of w) (opcode_of w) w
  made_format_R = omega (arith, made_U w, made_I w, made_R w)

  pub made_format_shift : FormatShift (funct7_of w) (amount_of w) (rs1_of w) (funct3_of w) (rd_of w) (opcode_of w) w
  made_format_shift = (omega arith, made_format_R)

  pub made_format_I : FormatI (immediate_i w) (rs1_of w) (funct3_of w) (rd_of w) (opcode_of w) w
  made_format_I =
      let h : w / 2 ^ 20 < 2 * 2 ^ 11 = omega arith in (
        (signed_least (2 ^ 11) (w / 2 ^ 20) h, signed_most (2 ^ 11) (w / 2 ^ 20) h),
        lay_i w (low_bits 12 (immediate_i w)) (low_of_signed (2 ^ 11) (w / 2 ^ 20) h),
      )

  pub made_format_S : FormatS (immediate_s w) (rs2_of w) (rs1_of w) (funct3_of w) (opcode_of w) w
  made_format_S =
      let n : ℕ = w / 2 ^ 25 * 2 ^ 5 + w / 2 ^ 7 % 2 ^ 5 in
      let h : n < 2 * 2 ^ 11 = omega arith in
      let l : low_bits 12 (immediate_s w) ≡ n = low_of_signed (2 ^ 11) n h in (
        (signed_least (2 ^ 11) n h, signed_most (2 ^ 11) n h),
        lay_s w (bits 5 7 (low_bits 12 (immediate_s w))) (bits 0 5 (low_bits 12 (immediate_s w))) (ap (bits 5 7) l ∙ omega arith) (ap (bits 0 5) l ∙ omega arith),
      )

  pub made_format_B : FormatB (immediate_b w) (rs2_of w) (rs1_of w) (funct3_of w) (opcode_of w) w
  made_format_B =
      let n : ℕ = w / 2 ^ 31 * 2 ^ 12 + w / 2 ^ 7 % 2 * 2 ^ 11 + w / 2 ^ 25 % 2 ^ 6 * 2 ^ 5 + w / 2 ^ 8 % 2 ^ 4 * 2 in
      let h : n < 2 * 2 ^ 12 = omega arith in
      let l : low_bits 13 (immediate_b w) ≡ n = low_of_signed (2 ^ 12) n h in
      let p = parts_b (w / 2 ^ 31) (w / 2 ^ 7 % 2) (w / 2 ^ 25 % 2 ^ 6) (w / 2 ^ 8 % 2 ^ 4) (low_bits 13 (immediate_b w)) l
      (omega arith) (omega arith) (omega arith) (omega arith) in
      ((signed_least (2 ^ 12) n h, signed_most (2 ^ 12) n h), p.0, lay_b w _ _ _ _ p.1 p.3 p.4 p.2)

  pub made_format_J : FormatJ (immediate_j w) (rd_of w) (opcode_of w) w
  made_format_J =
      let n : ℕ = w / 2 ^ 31 * 2 ^ 20 + w / 2 ^ 12 % 2 ^ 8 * 2 ^ 12 + w / 2 ^ 20 % 2 * 2 ^ 11 + w / 2 ^ 21 % 2 ^ 10 * 2 in
      let h : n < 2 * 2 ^ 20 = omega arith in
      let l : low_bits 21 (immediate_j w) ≡ n = low_of_signed (2 ^ 20) n h in
      let p = parts_j (w / 2 ^ 31) (w / 2 ^ 12 % 2 ^ 8) (w / 2 ^ 20 % 2) (w / 2 ^ 21 % 2 ^ 10) (low_bits 21 (immediate_j w)) l
      (omega arith) (omega arith) (omega arith) (omega arith) in
      ((signed_least (2 ^ 20) n h, signed_most (2 ^ 20) n h), p.0, lay_j w _ _ _ _ p.1 p.4 p.3 p.2)

-- What is found in a word that is assembled in a format.
pub record HasU (w : ℕ) (upper : ℕ) (rd : Reg) (opcode : ℕ) : Type 0 where
  pub opcode_is : opcode_of w ≡ opcode
  pub rd_is : rd_of w ≡ rd
  pub upper_is : immediate_u w ≡ upper

pub record HasI (w : ℕ) (imm : ℤ) (rs1 : Reg) (funct3 : ℕ) (rd : Reg) (opcode : ℕ) : Type 0 where
  pub opcode_is : opcode_of w ≡ opcode
  pub rd_is : rd_of w ≡ rd
  pub funct3_is : funct3_of w ≡ funct3
  pub rs1_is : rs1_of w ≡ rs1
  pub imm_is : immediate_i w ≡ imm

pub record HasR (w : ℕ) (funct7 : ℕ) (rs2 rs1 : Reg) (funct3 : ℕ) (rd : Reg) (opcode : ℕ) : Type 0 where
  pub opcode_is : opcode_of w ≡ opcode
  pub rd_is : rd_of w ≡ rd
  pub funct3_is : funct3_of w ≡ funct3
  pub rs1_is : rs1_of w ≡ rs1
  pub rs2_is : rs2_of w ≡ rs2
  pub funct7_is : funct7_of w ≡ funct7

pub record HasShift (w : ℕ) (funct7 shamt : ℕ) (rs1 : Reg) (funct3 : ℕ) (rd : Reg) (opcode : ℕ) : Type 0 where
  pub opcode_is : opcode_of w ≡ opcode
  pub rd_is : rd_of w ≡ rd
  pub funct3_is : funct3_of w ≡ funct3
  pub rs1_is : rs1_of w ≡ rs1
  pub amount_is : amount_of w ≡ shamt
  pub funct7_is : funct7_of w ≡ funct7

pub record HasTwo (w : ℕ) (imm : ℤ) (rs2 rs1 : Reg) (funct3 opcode : ℕ) (found : ℤ) : Type 0 where
  pub opcode_is : opcode_of w ≡ opcode
  pub funct3_is : funct3_of w ≡ funct3
  pub rs1_is : rs1_of w ≡ rs1
  pub rs2_is : rs2_of w ≡ rs2
  pub imm_is : found ≡ imm

pub record HasJ (w : ℕ) (imm : ℤ) (rd : Reg) (opcode : ℕ) : Type 0 where
  pub opcode_is : opcode_of w ≡ opcode
  pub rd_is : rd_of w ≡ rd
  pub imm_is : immediate_j w ≡ imm

module _ (w : ℕ) where
  reg_at : (n : ℕ) (r : Reg) → n % 2 ^ 5 ≡ r.number → reg_of n ≡ r
  reg_at n r e = same_register (reg_of n) r e

  pub found_format_U : (upper : ℕ) (rd : Reg) (opcode : ℕ) → opcode < 2 ^ 7 → FormatU upper rd opcode w → HasU w upper rd opcode
  found_format_U upper rd opcode ho (h, e) =
      let u = found_U w upper rd.number opcode (e ∙ omega arith) rd.below ho in
      record { opcode_is = u.opcode; rd_is = reg_at (w / 2 ^ 7) rd u.rd; upper_is = u.rest }

  pub found_format_R : (funct7 : ℕ) (rs2 rs1 : Reg) (funct3 : ℕ) (rd : Reg) (opcode : ℕ) → funct3 < 2 ^ 3 → opcode < 2 ^ 7
      → FormatR funct7 rs2 rs1 funct3 rd opcode w → HasR w funct7 rs2 rs1 funct3 rd opcode
  found_format_R funct7 rs2 rs1 funct3 rd opcode hf ho e =
      let u = found_U w (((funct7 * 2 ^ 5 + rs2.number) * 2 ^ 5 + rs1.number) * 2 ^ 3 + funct3) rd.number opcode
      (e ∙ omega arith) rd.below ho in
      let i = found_I w (funct7 * 2 ^ 5 + rs2.number) rs1.number funct3 u.rest rs1.below hf in
      let r = found_R w funct7 rs2.number i.rest rs2.below in
      record {
        opcode_is = u.opcode;
        rd_is = reg_at (w / 2 ^ 7) rd u.rd;
        funct3_is = i.funct3;
        rs1_is = reg_at (w / 2 ^ 15) rs1 i.rs1;
        rs2_is = reg_at (w / 2 ^ 20) rs2 r.rs2;
        funct7_is = r.rest;
      }

  pub found_format_shift : (funct7 shamt : ℕ) (rs1 : Reg) (funct3 : ℕ) (rd : Reg) (opcode : ℕ) → funct3 < 2 ^ 3 → opcode < 2 ^ 7
      → FormatShift funct7 shamt rs1 funct3 rd opcode w → HasShift w funct7 shamt rs1 funct3 rd opcode
  found_format_shift funct7 shamt rs1 funct3 rd opcode hf ho (h, e) =
      let u = found_U w (((funct7 * 2 ^ 5 + shamt) * 2 ^ 5 + rs1.number) * 2 ^ 3 + funct3) rd.number opcode
      (e ∙ omega arith) rd.below ho in
      let i = found_I w (funct7 * 2 ^ 5 + shamt) rs1.number funct3 u.rest rs1.below hf in
      let r = found_R w funct7 shamt i.rest h in
      record {
        opcode_is = u.opcode;
        rd_is = reg_at (w / 2 ^ 7) rd u.rd;
        funct3_is = i.funct3;
        rs1_is = reg_at (w / 2 ^ 15) rs1 i.rs1;
        amount_is = r.rs2;
        funct7_is = r.rest;
      }

  pub found_format_I : (imm : ℤ) (rs1 : Reg) (funct3 : ℕ) (rd : Reg) (opcode : ℕ) → funct3 < 2 ^ 3 → opcode < 2 ^ 7
      → FormatI imm rs1 funct3 rd opcode w → HasI w imm rs1 funct3 rd opcode
  found_format_I imm rs1 funct3 rd opcode hf ho (h, e) =
      let u = found_U w ((low_bits 12 imm * 2 ^ 5 + rs1.number) * 2 ^ 3 + funct3) rd.number opcode (e ∙ omega arith) rd.below ho in
      let i = found_I w (low_bits 12 imm) rs1.number funct3 u.rest rs1.below hf in
      record {
        opcode_is = u.opcode;
        rd_is = reg_at (w / 2 ^ 7) rd u.rd;
        funct3_is = i.funct3;
        rs1_is = reg_at (w / 2 ^ 15) rs1 i.rs1;
        imm_is = ap (signed (2 ^ 11)) i.rest ∙ signed_of_low (2 ^ 11) imm h.0 h.1;
      }

  pub found_format_S : (imm : ℤ) (rs2 rs1 : Reg) (funct3 opcode : ℕ) → funct3 < 2 ^ 3 → opcode < 2 ^ 7
      → FormatS imm rs2 rs1 funct3 opcode w → HasTwo w imm rs2 rs1 funct3 opcode (immediate_s w)
  found_format_S imm rs2 rs1 funct3 opcode hf ho (h, e) =
      let n : ℕ = low_bits 12 imm in
      let b : low_bits 12 imm < 2 * 2 ^ 11 = low_below (2 ^ 11) imm (omega arith) in
      let u = found_U w (((bits 5 7 n * 2 ^ 5 + rs2.number) * 2 ^ 5 + rs1.number) * 2 ^ 3 + funct3) (bits 0 5 n) opcode
      (e ∙ omega arith) (omega arith) ho in
      let i = found_I w (bits 5 7 n * 2 ^ 5 + rs2.number) rs1.number funct3 u.rest rs1.below hf in
      let r = found_R w (bits 5 7 n) rs2.number i.rest rs2.below in
      let s : w / 2 ^ 25 * 2 ^ 5 + w / 2 ^ 7 % 2 ^ 5 ≡ low_bits 12 imm = omega (arith, r.rest, u.rd) in
      record {
        opcode_is = u.opcode;
        funct3_is = i.funct3;
        rs1_is = reg_at (w / 2 ^ 15) rs1 i.rs1;
        rs2_is = reg_at (w / 2 ^ 20) rs2 r.rs2;
        imm_is = ap (signed (2 ^ 11)) s ∙ signed_of_low (2 ^ 11) imm h.0 h.1;
      }

  pub found_format_B : (imm : ℤ) (rs2 rs1 : Reg) (funct3 opcode : ℕ) → funct3 < 2 ^ 3 → opcode < 2 ^ 7
      → FormatB imm rs2 rs1 funct3 opcode w → HasTwo w imm rs2 rs1 funct3 opcode (immediate_b w)
  found_format_B imm rs2 rs1 funct3 opcode hf ho (h, even, e) =
      let n : ℕ = low_bits 13 imm in
      let b : low_bits 13 imm < 2 * 2 ^ 12 = low_below (2 ^ 12) imm (omega arith) in
      let g : ℕ = bits 12 1 n * 2 ^ 6 + bits 5 6 n in
      let d : ℕ = bits 1 4 n * 2 + bits 11 1 n in
      let u = found_U w (((g * 2 ^ 5 + rs2.number) * 2 ^ 5 + rs1.number) * 2 ^ 3 + funct3) d opcode (e ∙ omega arith) (omega arith) ho in
      let i = found_I w (g * 2 ^ 5 + rs2.number) rs1.number funct3 u.rest rs1.below hf in
      let r = found_R w g rs2.number i.rest rs2.below in
      let q = found_B w (bits 12 1 n) (bits 5 6 n) (bits 1 4 n) (bits 11 1 n) (w / 2 ^ 12) r.rest
      (omega (arith, split w 7 5, u.rd)) (omega arith) (omega arith) (omega arith) in
      let s : w / 2 ^ 31 * 2 ^ 12 + w / 2 ^ 7 % 2 * 2 ^ 11 + w / 2 ^ 25 % 2 ^ 6 * 2 ^ 5 + w / 2 ^ 8 % 2 ^ 4 * 2 ≡ low_bits 13 imm
      = omega (arith, whole_b n b even, q.top, q.middle, q.low, q.bit11) in
      record {
        opcode_is = u.opcode;
        funct3_is = i.funct3;
        rs1_is = reg_at (w / 2 ^ 15) rs1 i.rs1;
        rs2_is = reg_at (w / 2 ^ 20) rs2 r.rs2;
        imm_is = ap (signed (2 ^ 12)) s ∙ signed_of_low (2 ^ 12) imm h.0 h.1;
      }

  pub found_format_J : (imm : ℤ) (rd : Reg) (opcode : ℕ) → opcode < 2 ^ 7 → FormatJ imm rd opcode w → HasJ w imm rd opcode
  found_format_J imm rd opcode ho (h, even, e) =
      let n : ℕ = low_bits 21 imm in
      let b : low_bits 21 imm < 2 * 2 ^ 20 = low_below (2 ^ 20) imm (omega arith) in
      let u = found_U w (((bits 20 1 n * 2 ^ 10 + bits 1 10 n) * 2 ^ 1 + bits 11 1 n) * 2 ^ 8 + bits 12 8 n) rd.number opcode
      (e ∙ omega arith) rd.below ho in
      let q = found_J w (bits 20 1 n) (bits 1 10 n) (bits 11 1 n) (bits 12 8 n) u.rest (omega arith) (omega arith) (omega arith) in
      let s : w / 2 ^ 31 * 2 ^ 20 + w / 2 ^ 12 % 2 ^ 8 * 2 ^ 12 + w / 2 ^ 20 % 2 * 2 ^ 11 + w / 2 ^ 21 % 2 ^ 10 * 2 ≡ low_bits 21 imm
      = omega (arith, whole_j n b even, q.top, q.middle, q.low, q.bit11) in
      record {
        opcode_is = u.opcode;
        rd_is = reg_at (w / 2 ^ 7) rd u.rd;
        imm_is = ap (signed (2 ^ 20)) s ∙ signed_of_low (2 ^ 20) imm h.0 h.1;
      }
