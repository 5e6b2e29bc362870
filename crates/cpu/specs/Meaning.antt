-- What the instructions compute, in the manual's order. A register holds a number below 2 ^ 32; a signed instruction is
-- about the integer that it stands for. Assumes nothing: these are definitions.
use Rattle.std.specs.Prelude.{ℕ, ◌*◌, ◌/◌, ◌%◌, ◌^◌, Bool, true, false, not, ℤ, pos, ◌+ℤ◌, ◌-ℤ◌, ◌==◌, bit_and, bit_or, bit_xor, int_lt, nat_lt}
use Rattle.std.specs.Int.{int_div_euclid}
use Rattle.decode.specs.Fields.{signed}
use Rattle.decode.specs.Encodes.{low_bits}
use Rattle.decode.specs.declared.instruction.Condition.{Condition}
use Rattle.decode.specs.declared.instruction.Condition.TheVariants.{Beq, Bne, Blt, Bge, Bltu, Bgeu}
use Rattle.decode.specs.declared.instruction.LoadKind.{LoadKind}
use Rattle.decode.specs.declared.instruction.LoadKind.TheVariants.{Lb, Lh, Lw, Lbu, Lhu}
use Rattle.decode.specs.declared.instruction.StoreKind.{StoreKind}
use Rattle.decode.specs.declared.instruction.StoreKind.TheVariants.{Sb, Sh, Sw}
use Rattle.decode.specs.declared.instruction.ImmediateOp.{ImmediateOp}
use Rattle.decode.specs.declared.instruction.ImmediateOp.TheVariants.{Addi, Slti, Sltiu, Xori, Ori, Andi}
use Rattle.decode.specs.declared.instruction.ShiftOp.{ShiftOp}
use Rattle.decode.specs.declared.instruction.ShiftOp.TheVariants.{Slli, Srli, Srai}
use Rattle.decode.specs.declared.instruction.RegisterOp.{RegisterOp}
use Rattle.decode.specs.declared.instruction.RegisterOp.TheVariants.{Add, Sub, Sll, Slt, Sltu, Xor, Srl, Sra, Or, And}

-- The integer that a register's number stands for, and the register's number for an integer: its 32 low bits.
abbrev pub meant : ℕ → ℤ
meant n = signed (2 ^ 31) n

abbrev pub low : ℤ → ℕ
low z = low_bits 32 z

-- 1 for yes, 0 for no.
abbrev pub flag : Bool → ℕ
flag true = 1
flag false = 0

-- Whether a branch is taken.
abbrev pub taken : Condition → ℕ → ℕ → Bool
taken Beq a b = a == b
taken Bne a b = not (a == b)
taken Blt a b = int_lt (meant a) (meant b)
taken Bge a b = not (int_lt (meant a) (meant b))
taken Bltu a b = nat_lt a b
taken Bgeu a b = not (nat_lt a b)

-- How many bytes a load reads, and what it makes of them: the low bits of a signed number, or the number.
abbrev pub load_bytes : LoadKind → ℕ
load_bytes Lb = 1
load_bytes Lh = 2
load_bytes Lw = 4
load_bytes Lbu = 1
load_bytes Lhu = 2

abbrev pub extended : LoadKind → ℕ → ℕ
extended Lb raw = low (signed (2 ^ 7) (raw % 2 ^ 8))
extended Lh raw = low (signed (2 ^ 15) (raw % 2 ^ 16))
extended Lw raw = raw
extended Lbu raw = raw % 2 ^ 8
extended Lhu raw = raw % 2 ^ 16

-- How many bytes a store writes.
abbrev pub store_bytes : StoreKind → ℕ
store_bytes Sb = 1
store_bytes Sh = 2
store_bytes Sw = 4

-- SLTIU compares with the immediate's 32 low bits as an unsigned number.
abbrev pub with_immediate : ImmediateOp → ℕ → ℤ → ℕ
with_immediate Addi a i = low (pos a +ℤ i)
with_immediate Slti a i = flag (int_lt (meant a) i)
with_immediate Sltiu a i = flag (nat_lt a (low i))
with_immediate Xori a i = bit_xor a (low i)
with_immediate Ori a i = bit_or a (low i)
with_immediate Andi a i = bit_and a (low i)

-- Shifts go by the five low bits of the amount. To the right with the sign is a division that rounds down.
abbrev pub left_by : ℕ → ℕ → ℕ
left_by a n = a * 2 ^ (n % 32) % 2 ^ 32

abbrev pub right_by : ℕ → ℕ → ℕ
right_by a n = a / 2 ^ (n % 32)

abbrev pub signed_right_by : ℕ → ℕ → ℕ
signed_right_by a n = low (int_div_euclid (meant a) (pos (2 ^ (n % 32))))

abbrev pub shifted : ShiftOp → ℕ → ℕ → ℕ
shifted Slli a n = left_by a n
shifted Srli a n = right_by a n
shifted Srai a n = signed_right_by a n

abbrev pub with_register : RegisterOp → ℕ → ℕ → ℕ
with_register Add a b = low (pos a +ℤ pos b)
with_register Sub a b = low (pos a -ℤ pos b)
with_register Sll a b = left_by a b
with_register Slt a b = flag (int_lt (meant a) (meant b))
with_register Sltu a b = flag (nat_lt a b)
with_register Xor a b = bit_xor a b
with_register Srl a b = right_by a b
with_register Sra a b = signed_right_by a b
with_register Or a b = bit_or a b
with_register And a b = bit_and a b
