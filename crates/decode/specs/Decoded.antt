-- The instruction of a word, in two stages: first by its opcode, then by its functs. Assumes nothing: these are definitions.
use Rattle.std.specs.Prelude.{ℕ, if◌then◌else◌, Some, None, Option, ◌==◌}
use Rattle.decode.specs.declared.instruction.Instruction.{Instruction}
use Rattle.decode.specs.declared.instruction.Instruction.TheVariants.{Lui, Auipc, Jal, Jalr, Branch, Load, Store, Immediate, Shift, Register, Fence, Ecall}
use Rattle.decode.specs.declared.instruction.Condition.{Condition}
use Rattle.decode.specs.declared.instruction.Condition.TheVariants.{Beq, Bne, Blt, Bge, Bltu, Bgeu}
use Rattle.decode.specs.declared.instruction.LoadKind.{LoadKind}
use Rattle.decode.specs.declared.instruction.LoadKind.TheVariants.{Lb, Lh, Lw, Lbu, Lhu}
use Rattle.decode.specs.declared.instruction.StoreKind.{StoreKind}
use Rattle.decode.specs.declared.instruction.StoreKind.TheVariants.{Sb, Sh, Sw}
use Rattle.decode.specs.declared.instruction.ImmediateOp.{ImmediateOp}
use Rattle.decode.specs.declared.instruction.ImmediateOp.TheVariants.{Addi, Slti, Sltiu, Xori, Ori, Andi}
use Rattle.decode.specs.declared.instruction.ShiftOp.{ShiftOp}
use Rattle.decode.specs.declared.instruction.ShiftOp.TheVariants.{Slli, Srli, Srai}
use Rattle.decode.specs.declared.instruction.RegisterOp.{RegisterOp}
use Rattle.decode.specs.declared.instruction.RegisterOp.TheVariants.{Add, Sub, Sll, Slt, Sltu, Xor, Srl, Sra, Or, And}
use Rattle.decode.specs.Fields.{opcode_of, rd_of, funct3_of, rs1_of, rs2_of, funct7_of, amount_of, immediate_i, immediate_s, immediate_b, immediate_u, immediate_j}

-- What funct3 says of a branch, a load, a store.
abbrev pub condition_of : ℕ → Option Condition
condition_of f =
    if f == 0 then Some Beq
    else if f == 1 then Some Bne
    else if f == 4 then Some Blt
    else if f == 5 then Some Bge
    else if f == 6 then Some Bltu
    else if f == 7 then Some Bgeu else None

abbrev pub load_kind_of : ℕ → Option LoadKind
load_kind_of f =
    if f == 0 then Some Lb
    else if f == 1 then Some Lh
    else if f == 2 then Some Lw
    else if f == 4 then Some Lbu
    else if f == 5 then Some Lhu else None

abbrev pub store_kind_of : ℕ → Option StoreKind
store_kind_of f = if f == 0 then Some Sb else if f == 1 then Some Sh else if f == 2 then Some Sw else None

-- What funct3 says of an instruction with an immediate that is no shift.
abbrev pub immediate_op_of : ℕ → Option ImmediateOp
immediate_op_of f =
    if f == 0 then Some Addi
    else if f == 2 then Some Slti
    else if f == 3 then Some Sltiu
    else if f == 4 then Some Xori
    else if f == 6 then Some Ori
    else if f == 7 then Some Andi else None

-- What funct7 and funct3 say of a shift by an amount.
abbrev pub shift_op_of : ℕ → ℕ → Option ShiftOp
shift_op_of g f =
    if g == 0 then (if f == 1 then Some Slli else if f == 5 then Some Srli else None)
    else if g == 0x20 then (if f == 5 then Some Srai else None) else None

-- What they say of an instruction with two registers: by funct3 where funct7 is 0, and where it is 0x20.
abbrev pub plain_op_of : ℕ → Option RegisterOp
plain_op_of f =
    if f == 0 then Some Add
    else if f == 1 then Some Sll
    else if f == 2 then Some Slt
    else if f == 3 then Some Sltu
    else if f == 4 then Some Xor
    else if f == 5 then Some Srl
    else if f == 6 then Some Or
    else if f == 7 then Some And else None

abbrev pub other_op_of : ℕ → Option RegisterOp
other_op_of f = if f == 0 then Some Sub else if f == 5 then Some Sra else None

abbrev pub register_op_of : ℕ → ℕ → Option RegisterOp
register_op_of g f = if g == 0 then plain_op_of f else if g == 0x20 then other_op_of f else None

-- The second stage, for each class of opcodes.
abbrev pub branch_with : ℕ → Option Condition → Option Instruction
branch_with w None = None
branch_with w (Some on) = Some (Branch on (rs1_of w) (rs2_of w) (immediate_b w))

abbrev pub load_with : ℕ → Option LoadKind → Option Instruction
load_with w None = None
load_with w (Some kind) = Some (Load kind (rd_of w) (rs1_of w) (immediate_i w))

abbrev pub store_with : ℕ → Option StoreKind → Option Instruction
store_with w None = None
store_with w (Some kind) = Some (Store kind (rs1_of w) (rs2_of w) (immediate_s w))

abbrev pub shift_with : ℕ → Option ShiftOp → Option Instruction
shift_with w None = None
shift_with w (Some op) = Some (Shift op (rd_of w) (rs1_of w) (amount_of w))

abbrev pub immediate_with : ℕ → Option ImmediateOp → Option Instruction
immediate_with w None = shift_with w (shift_op_of (funct7_of w) (funct3_of w))
immediate_with w (Some op) = Some (Immediate op (rd_of w) (rs1_of w) (immediate_i w))

abbrev pub register_with : ℕ → Option RegisterOp → Option Instruction
register_with w None = None
register_with w (Some op) = Some (Register op (rd_of w) (rs1_of w) (rs2_of w))

abbrev pub jalr_with : ℕ → ℕ → Option Instruction
jalr_with w f = if f == 0 then Some (Jalr (rd_of w) (rs1_of w) (immediate_i w)) else None

abbrev pub fence_with : ℕ → Option Instruction
fence_with f = if f == 0 then Some Fence else None

abbrev pub system_of : ℕ → Option Instruction
system_of w = if w == 0x73 then Some Ecall else None

-- The first stage.
abbrev pub classed : ℕ → ℕ → Option Instruction
classed w o =
    if o == 0x37 then Some (Lui (rd_of w) (immediate_u w))
    else if o == 0x17 then Some (Auipc (rd_of w) (immediate_u w))
    else if o == 0x6f then Some (Jal (rd_of w) (immediate_j w))
    else if o == 0x67 then jalr_with w (funct3_of w)
    else if o == 0x63 then branch_with w (condition_of (funct3_of w))
    else if o == 0x03 then load_with w (load_kind_of (funct3_of w))
    else if o == 0x23 then store_with w (store_kind_of (funct3_of w))
    else if o == 0x13 then immediate_with w (immediate_op_of (funct3_of w))
    else if o == 0x33 then register_with w (register_op_of (funct7_of w) (funct3_of w))
    else if o == 0x0f then fence_with (funct3_of w)
    else if o == 0x73 then system_of w else None

abbrev pub decoded : ℕ → Option Instruction
decoded w = classed w (opcode_of w)
