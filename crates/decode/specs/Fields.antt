-- The fields of a word, as the manual names them, and the immediates that they hold. Assumes nothing: these are definitions.
use Rattle.std.specs.Prelude.{ℕ, ◌+◌, ◌*◌, ◌/◌, ◌%◌, ◌^◌, if◌then◌else◌, ℤ, pos, ◌-ℤ◌, nat_lt}
use Rattle.std.proofs.Common.{mod-lt, lit<}
use Rattle.decode.specs.declared.reg.Reg.{Reg}

-- The register that the five low bits of a number name.
abbrev pub reg_of : ℕ → Reg
reg_of n = record { number = n % 32; below = mod-lt n {m = 32} (lit< tt) }

-- Two's complement: what n stands for, where half is the weight of its highest bit, and that bit counts as negative.
abbrev pub signed : ℕ → ℕ → ℤ
signed half n = if nat_lt n half then pos n else pos n -ℤ pos (2 * half)

abbrev pub opcode_of : ℕ → ℕ
opcode_of w = w % 2 ^ 7

abbrev pub rd_of : ℕ → Reg
rd_of w = reg_of (w / 2 ^ 7)

abbrev pub funct3_of : ℕ → ℕ
funct3_of w = w / 2 ^ 12 % 2 ^ 3

abbrev pub rs1_of : ℕ → Reg
rs1_of w = reg_of (w / 2 ^ 15)

abbrev pub rs2_of : ℕ → Reg
rs2_of w = reg_of (w / 2 ^ 20)

abbrev pub funct7_of : ℕ → ℕ
funct7_of w = w / 2 ^ 25

-- The amount of a shift stands where rs2 does.
abbrev pub amount_of : ℕ → ℕ
amount_of w = w / 2 ^ 20 % 2 ^ 5

-- Bits 31 to 20 are bits 11 to 0.
abbrev pub immediate_i : ℕ → ℤ
immediate_i w = signed (2 ^ 11) (w / 2 ^ 20)

-- Bits 31 to 25 are bits 11 to 5, and bits 11 to 7 are bits 4 to 0.
abbrev pub immediate_s : ℕ → ℤ
immediate_s w = signed (2 ^ 11) (w / 2 ^ 25 * 2 ^ 5 + w / 2 ^ 7 % 2 ^ 5)

-- Bit 31 is bit 12, bit 7 is bit 11, bits 30 to 25 are bits 10 to 5, and bits 11 to 8 are bits 4 to 1.
abbrev pub immediate_b : ℕ → ℤ
immediate_b w =
    signed (2 ^ 12)
    (w / 2 ^ 31 * 2 ^ 12 + w / 2 ^ 7 % 2 * 2 ^ 11 + w / 2 ^ 25 % 2 ^ 6 * 2 ^ 5 + w / 2 ^ 8 % 2 ^ 4 * 2)

-- Bits 31 to 12 are the 20 high bits.
abbrev pub immediate_u : ℕ → ℕ
immediate_u w = w / 2 ^ 12

-- Bit 31 is bit 20, bits 19 to 12 are themselves, bit 20 is bit 11, and bits 30 to 21 are bits 10 to 1.
abbrev pub immediate_j : ℕ → ℤ
immediate_j w =
    signed (2 ^ 20)
    (w / 2 ^ 31 * 2 ^ 20 + w / 2 ^ 12 % 2 ^ 8 * 2 ^ 12 + w / 2 ^ 20 % 2 * 2 ^ 11 + w / 2 ^ 21 % 2 ^ 10 * 2)
