-- Which word an instruction has, by the manual's formats. This is what is to be compared with the manual: nothing here
-- is about how a word is taken apart. Assumes nothing: these are definitions.
use Rattle.std.specs.Prelude.{◌≡◌, ℕ, ◌+◌, ◌-◌, ◌*◌, ◌/◌, ◌%◌, ◌^◌, ◌<◌, List, [], ◌∷◌, ℤ, pos, neg_ℤ, ◌≤ℤ◌, ◌<ℤ◌, unsigned_abs}
use Rattle.std.specs.Int.{int_rem_euclid}
use Rattle.decode.specs.declared.reg.Reg.{Reg}
use Rattle.decode.specs.declared.instruction.Instruction.{Instruction}
use Rattle.decode.specs.declared.instruction.Instruction.TheVariants.{Lui, Auipc, Jal, Jalr, Branch, Load, Store, Immediate, Shift, Register, Fence, Ecall}
use Rattle.decode.specs.declared.instruction.Condition.{Condition}
use Rattle.decode.specs.declared.instruction.Condition.TheVariants.{Beq, Bne, Blt, Bge, Bltu, Bgeu}
use Rattle.decode.specs.declared.instruction.LoadKind.{LoadKind}
use Rattle.decode.specs.declared.instruction.LoadKind.TheVariants.{Lb, Lh, Lw, Lbu, Lhu}
use Rattle.decode.specs.declared.instruction.StoreKind.{StoreKind}
use Rattle.decode.specs.declared.instruction.StoreKind.TheVariants.{Sb, Sh, Sw}
use Rattle.decode.specs.declared.instruction.ImmediateOp.{ImmediateOp}
use Rattle.decode.specs.declared.instruction.ImmediateOp.TheVariants.{Addi, Slti, Sltiu, Xori, Ori, Andi}
use Rattle.decode.specs.declared.instruction.ShiftOp.{ShiftOp}
use Rattle.decode.specs.declared.instruction.ShiftOp.TheVariants.{Slli, Srli, Srai}
use Rattle.decode.specs.declared.instruction.RegisterOp.{RegisterOp}
use Rattle.decode.specs.declared.instruction.RegisterOp.TheVariants.{Add, Sub, Sll, Slt, Sltu, Xor, Srl, Sra, Or, And}

-- A word from its fields, from the high bits to the low ones, each with its width; n stands above them.
abbrev pub fields : ℕ → List (ℕ × ℕ) → ℕ
fields n [] = n
fields n (f ∷ fs) = fields (n * 2 ^ f.0 + f.1) fs

-- The k low bits of an integer, in two's complement; and those of them from bit j on, n of them.
abbrev pub low_bits : ℕ → ℤ → ℕ
low_bits k z = unsigned_abs (int_rem_euclid z (pos (2 ^ k)))

abbrev pub bits : ℕ → ℕ → ℕ → ℕ
bits j n v = v / 2 ^ j % 2 ^ n

-- A signed number of k bits.
abbrev pub InRange : ℕ → ℤ → Type 0
InRange k z = (neg_ℤ (pos (2 ^ (k - 1))) ≤ℤ z) × (z <ℤ pos (2 ^ (k - 1)))

--    31          25 24   20 19   15 14    12 11           7 6      0
--   |    funct7    |  rs2  |  rs1  | funct3 |      rd      | opcode |
abbrev pub FormatR : (funct7 : ℕ) (rs2 rs1 : Reg) (funct3 : ℕ) (rd : Reg) (opcode : ℕ) → ℕ → Type 0
FormatR funct7 rs2 rs1 funct3 rd opcode w =
    w ≡ fields 0 ((7, funct7) ∷ (5, rs2.number) ∷ (5, rs1.number) ∷ (3, funct3) ∷ (5, rd.number) ∷ (7, opcode) ∷ [])

--   |      imm[11:0]       |  rs1  | funct3 |      rd      | opcode |
abbrev pub FormatI : (imm : ℤ) (rs1 : Reg) (funct3 : ℕ) (rd : Reg) (opcode : ℕ) → ℕ → Type 0
FormatI imm rs1 funct3 rd opcode w =
    InRange 12 imm
    × (w ≡ fields 0 ((12, low_bits 12 imm) ∷ (5, rs1.number) ∷ (3, funct3) ∷ (5, rd.number) ∷ (7, opcode) ∷ []))

-- A shift by an amount has format I with its immediate in two parts.
--   |    funct7    | shamt |  rs1  | funct3 |      rd      | opcode |
abbrev pub FormatShift : (funct7 shamt : ℕ) (rs1 : Reg) (funct3 : ℕ) (rd : Reg) (opcode : ℕ) → ℕ → Type 0
FormatShift funct7 shamt rs1 funct3 rd opcode w =
    (shamt < 2 ^ 5)
    × (w ≡ fields 0 ((7, funct7) ∷ (5, shamt) ∷ (5, rs1.number) ∷ (3, funct3) ∷ (5, rd.number) ∷ (7, opcode) ∷ []))

--   |  imm[11:5]   |  rs2  |  rs1  | funct3 |   imm[4:0]   | opcode |
abbrev pub FormatS : (imm : ℤ) (rs2 rs1 : Reg) (funct3 opcode : ℕ) → ℕ → Type 0
FormatS imm rs2 rs1 funct3 opcode w =
    InRange 12 imm
    × (w ≡ fields 0
    ((7, bits 5 7 (low_bits 12 imm)) ∷ (5, rs2.number) ∷ (5, rs1.number) ∷ (3, funct3)
    ∷ (5, bits 0 5 (low_bits 12 imm)) ∷ (7, opcode) ∷ []))

--   | imm[12|10:5] |  rs2  |  rs1  | funct3 | imm[4:1|11]  | opcode |       the immediate is even
abbrev pub FormatB : (imm : ℤ) (rs2 rs1 : Reg) (funct3 opcode : ℕ) → ℕ → Type 0
FormatB imm rs2 rs1 funct3 opcode w =
    InRange 13 imm × (low_bits 13 imm % 2 ≡ 0)
    × (w ≡ fields 0
    ((1, bits 12 1 (low_bits 13 imm)) ∷ (6, bits 5 6 (low_bits 13 imm)) ∷ (5, rs2.number) ∷ (5, rs1.number) ∷ (3, funct3)
    ∷ (4, bits 1 4 (low_bits 13 imm)) ∷ (1, bits 11 1 (low_bits 13 imm)) ∷ (7, opcode) ∷ []))

--   |              imm[31:12]               |      rd      | opcode |       imm[31:12] is a number of 20 bits
abbrev pub FormatU : (upper : ℕ) (rd : Reg) (opcode : ℕ) → ℕ → Type 0
FormatU upper rd opcode w = (upper < 2 ^ 20) × (w ≡ fields 0 ((20, upper) ∷ (5, rd.number) ∷ (7, opcode) ∷ []))

--   |         imm[20|10:1|11|19:12]         |      rd      | opcode |       the immediate is even
abbrev pub FormatJ : (imm : ℤ) (rd : Reg) (opcode : ℕ) → ℕ → Type 0
FormatJ imm rd opcode w =
    InRange 21 imm × (low_bits 21 imm % 2 ≡ 0)
    × (w ≡ fields 0
    ((1, bits 20 1 (low_bits 21 imm)) ∷ (10, bits 1 10 (low_bits 21 imm)) ∷ (1, bits 11 1 (low_bits 21 imm))
    ∷ (8, bits 12 8 (low_bits 21 imm)) ∷ (5, rd.number) ∷ (7, opcode) ∷ []))

-- funct3 of a branch, a load, a store and an instruction with an immediate.
abbrev pub branch_funct3 : Condition → ℕ
branch_funct3 Beq = 0b000
branch_funct3 Bne = 0b001
branch_funct3 Blt = 0b100
branch_funct3 Bge = 0b101
branch_funct3 Bltu = 0b110
branch_funct3 Bgeu = 0b111

abbrev pub load_funct3 : LoadKind → ℕ
load_funct3 Lb = 0b000
load_funct3 Lh = 0b001
load_funct3 Lw = 0b010
load_funct3 Lbu = 0b100
load_funct3 Lhu = 0b101

abbrev pub store_funct3 : StoreKind → ℕ
store_funct3 Sb = 0b000
store_funct3 Sh = 0b001
store_funct3 Sw = 0b010

abbrev pub immediate_funct3 : ImmediateOp → ℕ
immediate_funct3 Addi = 0b000
immediate_funct3 Slti = 0b010
immediate_funct3 Sltiu = 0b011
immediate_funct3 Xori = 0b100
immediate_funct3 Ori = 0b110
immediate_funct3 Andi = 0b111

-- funct7 and funct3 of a shift by an amount, and of an instruction with two registers.
abbrev pub shift_functs : ShiftOp → ℕ × ℕ
shift_functs Slli = (0b0000000, 0b001)
shift_functs Srli = (0b0000000, 0b101)
shift_functs Srai = (0b0100000, 0b101)

abbrev pub register_functs : RegisterOp → ℕ × ℕ
register_functs Add = (0b0000000, 0b000)
register_functs Sub = (0b0100000, 0b000)
register_functs Sll = (0b0000000, 0b001)
register_functs Slt = (0b0000000, 0b010)
register_functs Sltu = (0b0000000, 0b011)
register_functs Xor = (0b0000000, 0b100)
register_functs Srl = (0b0000000, 0b101)
register_functs Sra = (0b0100000, 0b101)
register_functs Or = (0b0000000, 0b110)
register_functs And = (0b0000000, 0b111)

-- The instruction i has the word w. FENCE has each word with its opcode and its funct3, since the other fields say
-- only what it orders.
abbrev pub Encodes : Instruction → ℕ → Type 0
Encodes (Lui rd upper) w = FormatU upper rd 0b0110111 w
Encodes (Auipc rd upper) w = FormatU upper rd 0b0010111 w
Encodes (Jal rd offset) w = FormatJ offset rd 0b1101111 w
Encodes (Jalr rd rs1 offset) w = FormatI offset rs1 0b000 rd 0b1100111 w
Encodes (Branch on rs1 rs2 offset) w = FormatB offset rs2 rs1 (branch_funct3 on) 0b1100011 w
Encodes (Load kind rd rs1 offset) w = FormatI offset rs1 (load_funct3 kind) rd 0b0000011 w
Encodes (Store kind rs1 rs2 offset) w = FormatS offset rs2 rs1 (store_funct3 kind) 0b0100011 w
Encodes (Immediate op rd rs1 operand) w = FormatI operand rs1 (immediate_funct3 op) rd 0b0010011 w
Encodes (Shift op rd rs1 amount) w = FormatShift (shift_functs op).0 amount rs1 (shift_functs op).1 rd 0b0010011 w
Encodes (Register op rd rs1 rs2) w = FormatR (register_functs op).0 rs2 rs1 (register_functs op).1 rd 0b0110011 w
Encodes Fence w = (bits 0 7 w ≡ 0b0001111) × (bits 12 3 w ≡ 0b000)
Encodes Ecall w = w ≡ 0b000000000000_00000_000_00000_1110011
