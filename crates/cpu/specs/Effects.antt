-- What each instruction does, where pc is its address, a and b are what the registers rs1 and rs2 hold, and memory has so
-- many bytes. Assumes nothing: these are definitions.
use Rattle.std.specs.Prelude.{◌≡◌, ℕ, ◌+◌, ◌-◌, ◌*◌, ◌%◌, ◌^◌, ◌≤◌, Bool, if◌then◌else◌, ◌&&◌, ℤ, pos, ◌+ℤ◌, ◌==◌, nat_le}
use Rattle.decode.specs.declared.reg.Reg.{Reg}
use Rattle.decode.specs.Fields.{reg_of}
use Rattle.decode.specs.declared.instruction.Instruction.{Instruction}
use Rattle.decode.specs.declared.instruction.Instruction.TheVariants.{Lui, Auipc, Jal, Jalr, Branch, Load, Store, Immediate, Shift, Register, Fence, Ecall}
use Rattle.cpu.specs.declared.effect.Effect.{Effect}
use Rattle.cpu.specs.declared.effect.Effect.TheVariants.{Sets, Goes, Loads, Stores, Calls, Wrong}
use Rattle.cpu.specs.Meaning.{low, taken, load_bytes, store_bytes, with_immediate, shifted, with_register}

-- Where a task goes on.
abbrev pub following : ℕ → ℕ
following pc = (pc + 4) % 2 ^ 32

-- An address and a signed offset.
abbrev pub displaced : ℕ → ℤ → ℕ
displaced k offset = low (pos k +ℤ offset)

-- An access of n bytes lies in memory, at a multiple of n.
abbrev pub inside : ℕ → ℕ → ℕ → Bool
inside n k size = k % n == 0 && nat_le (k + n) size

-- A jump that keeps where the task would have gone on, and a branch that is taken: to an instruction, or wrong.
abbrev pub jumps : Reg → ℕ → ℕ → ℕ → Effect
jumps rd back target size = if inside 4 target size then Sets rd back target else Wrong

abbrev pub branches : ℕ → ℕ → Effect
branches target size = if inside 4 target size then Goes target else Wrong

-- The clauses, in the manual's order.
abbrev pub effect : Instruction → (pc a b size : ℕ) → Effect
effect (Lui rd upper) pc a b size = Sets rd (upper * 2 ^ 12 % 2 ^ 32) (following pc)
effect (Auipc rd upper) pc a b size = Sets rd ((pc + upper * 2 ^ 12) % 2 ^ 32) (following pc)
effect (Jal rd offset) pc a b size = jumps rd (following pc) (displaced pc offset) size
effect (Jalr rd rs1 offset) pc a b size = jumps rd (following pc) (displaced a offset - displaced a offset % 2) size
effect (Branch on rs1 rs2 offset) pc a b size = if taken on a b then branches (displaced pc offset) size else Goes (following pc)
effect (Load kind rd rs1 offset) pc a b size =
    if inside (load_bytes kind) (displaced a offset) size then Loads rd kind (displaced a offset) else Wrong
effect (Store kind rs1 rs2 offset) pc a b size =
    if inside (store_bytes kind) (displaced a offset) size then Stores kind (displaced a offset) b else Wrong
effect (Immediate op rd rs1 operand) pc a b size = Sets rd (with_immediate op a operand) (following pc)
effect (Shift op rd rs1 amount) pc a b size = Sets rd (shifted op a amount) (following pc)
effect (Register op rd rs1 rs2) pc a b size = Sets rd (with_register op a b) (following pc)
effect Fence pc a b size = Goes (following pc)
effect Ecall pc a b size = Calls

-- The registers rs1 and rs2 of an instruction, x0 where it has none.
abbrev pub x0 : Reg
x0 = reg_of 0

abbrev pub sources : Instruction → Reg × Reg
sources (Lui rd upper) = (x0, x0)
sources (Auipc rd upper) = (x0, x0)
sources (Jal rd offset) = (x0, x0)
sources (Jalr rd rs1 offset) = (rs1, x0)
sources (Branch on rs1 rs2 offset) = (rs1, rs2)
sources (Load kind rd rs1 offset) = (rs1, x0)
sources (Store kind rs1 rs2 offset) = (rs1, rs2)
sources (Immediate op rd rs1 operand) = (rs1, x0)
sources (Shift op rd rs1 amount) = (rs1, x0)
sources (Register op rd rs1 rs2) = (rs1, rs2)
sources Fence = (x0, x0)
sources Ecall = (x0, x0)

-- An access of an effect lies in memory, at a multiple of its size.
abbrev pub Inside : ℕ → Effect → Type 0
Inside size (Sets rd value next) = Unit {0}
Inside size (Goes next) = Unit {0}
Inside size (Loads rd kind address) = (address % load_bytes kind ≡ 0) × (address + load_bytes kind ≤ size)
Inside size (Stores kind address value) = (address % store_bytes kind ≡ 0) × (address + store_bytes kind ≤ size)
Inside size Calls = Unit {0}
Inside size Wrong = Unit {0}
