-- The functs of each kind, there and back.
use Rattle.std.proofs.Common.{◌≡◌, ℕ, ◌^◌, ◌<◌, cond, eqb, Some, None, Option, refl, lit<}
use Rattle.std.specs.Option.{IfSome}
use Rattle.std.proofs.lemmas.Bool.{cond_both, eqb-true}
use Rattle.decode.specs.declared.instruction.Condition.{Condition}
use Rattle.decode.specs.declared.instruction.Condition.TheVariants.{Beq, Bne, Blt, Bge, Bltu, Bgeu}
use Rattle.decode.specs.declared.instruction.LoadKind.{LoadKind}
use Rattle.decode.specs.declared.instruction.LoadKind.TheVariants.{Lb, Lh, Lw, Lbu, Lhu}
use Rattle.decode.specs.declared.instruction.StoreKind.{StoreKind}
use Rattle.decode.specs.declared.instruction.StoreKind.TheVariants.{Sb, Sh, Sw}
use Rattle.decode.specs.declared.instruction.ImmediateOp.{ImmediateOp}
use Rattle.decode.specs.declared.instruction.ImmediateOp.TheVariants.{Addi, Slti, Sltiu, Xori, Ori, Andi}
use Rattle.decode.specs.declared.instruction.ShiftOp.{ShiftOp}
use Rattle.decode.specs.declared.instruction.ShiftOp.TheVariants.{Slli, Srli, Srai}
use Rattle.decode.specs.declared.instruction.RegisterOp.{RegisterOp}
use Rattle.decode.specs.declared.instruction.RegisterOp.TheVariants.{Add, Sub, Sll, Slt, Sltu, Xor, Srl, Sra, Or, And}
use Rattle.decode.specs.Decoded.{condition_of, load_kind_of, store_kind_of, immediate_op_of, shift_op_of, plain_op_of, other_op_of, register_op_of}
use Rattle.decode.specs.Encodes.{branch_funct3, load_funct3, store_funct3, immediate_funct3, shift_functs, register_functs}

-- What holds of the value in a Some, seen as a fact about the Option.
abbrev pub Told : {A : Type 0} → (A → Type 0) → Option A → Type 0
Told P o = IfSome o P

-- A test for one value, and what is left.
told_by : {A : Type 0} (P : A → Type 0) (f n : ℕ) (x : A) (rest : Option A) → (f ≡ n → P x) → Told P rest → Told P (cond (eqb f n) (Some x) rest)
told_by P f n x rest here more = cond_both (eqb f n) (Some x) rest (Told P) (λ e. here (eqb-true f n e)) (λ e. more)

module _ (f : ℕ) where
  pub condition_told : Told (λ k. f ≡ branch_funct3 k) (condition_of f)
  condition_told =
      told_by _ f 0 Beq _ (λ e. e) (told_by _ f 1 Bne _ (λ e. e) (told_by _ f 4 Blt _ (λ e. e) (told_by _ f 5 Bge _ (λ e. e)
      (told_by _ f 6 Bltu _ (λ e. e) (told_by _ f 7 Bgeu _ (λ e. e) tt)))))

  pub load_told : Told (λ k. f ≡ load_funct3 k) (load_kind_of f)
  load_told =
      told_by _ f 0 Lb _ (λ e. e) (told_by _ f 1 Lh _ (λ e. e) (told_by _ f 2 Lw _ (λ e. e) (told_by _ f 4 Lbu _ (λ e. e)
      (told_by _ f 5 Lhu _ (λ e. e) tt))))

  pub store_told : Told (λ k. f ≡ store_funct3 k) (store_kind_of f)
  store_told = told_by _ f 0 Sb _ (λ e. e) (told_by _ f 1 Sh _ (λ e. e) (told_by _ f 2 Sw _ (λ e. e) tt))

  pub immediate_told : Told (λ k. f ≡ immediate_funct3 k) (immediate_op_of f)
  immediate_told =
      told_by _ f 0 Addi _ (λ e. e) (told_by _ f 2 Slti _ (λ e. e) (told_by _ f 3 Sltiu _ (λ e. e) (told_by _ f 4 Xori _ (λ e. e)
      (told_by _ f 6 Ori _ (λ e. e) (told_by _ f 7 Andi _ (λ e. e) tt)))))

module _ (g f : ℕ) where
  abbrev pub ShiftTold : ShiftOp → Type 0
  ShiftTold k = (g ≡ (shift_functs k).0) × (f ≡ (shift_functs k).1)

  abbrev pub RegisterTold : RegisterOp → Type 0
  RegisterTold k = (g ≡ (register_functs k).0) × (f ≡ (register_functs k).1)

  pub shift_told : Told ShiftTold (shift_op_of g f)
  shift_told =
      cond_both (eqb g 0) _ _ (Told ShiftTold)
      (λ z. told_by ShiftTold f 1 Slli _ (λ e. (eqb-true g 0 z, e)) (told_by ShiftTold f 5 Srli _ (λ e. (eqb-true g 0 z, e)) tt))
      (λ _. cond_both (eqb g 0x20) _ _ (Told ShiftTold) (λ z. told_by ShiftTold f 5 Srai _ (λ e. (eqb-true g 0x20 z, e)) tt) (λ _. tt))

  plain_told : g ≡ 0 → Told RegisterTold (plain_op_of f)
  plain_told z =
      told_by RegisterTold f 0 Add _ (λ e. (z, e)) (told_by RegisterTold f 1 Sll _ (λ e. (z, e)) (told_by RegisterTold f 2 Slt _ (λ e. (z, e))
      (told_by RegisterTold f 3 Sltu _ (λ e. (z, e)) (told_by RegisterTold f 4 Xor _ (λ e. (z, e)) (told_by RegisterTold f 5 Srl _ (λ e. (z, e))
      (told_by RegisterTold f 6 Or _ (λ e. (z, e)) (told_by RegisterTold f 7 And _ (λ e. (z, e)) tt)))))))

  other_told : g ≡ 0x20 → Told RegisterTold (other_op_of f)
  other_told z = told_by RegisterTold f 0 Sub _ (λ e. (z, e)) (told_by RegisterTold f 5 Sra _ (λ e. (z, e)) tt)

  pub register_told : Told RegisterTold (register_op_of g f)
  register_told =
      cond_both (eqb g 0) _ _ (Told RegisterTold) (λ z. plain_told (eqb-true g 0 z))
      (λ _. cond_both (eqb g 0x20) _ _ (Told RegisterTold) (λ z. other_told (eqb-true g 0x20 z)) (λ _. tt))

pub condition_back : (k : Condition) → condition_of (branch_funct3 k) ≡ Some k
condition_back Beq = refl
condition_back Bne = refl
condition_back Blt = refl
condition_back Bge = refl
condition_back Bltu = refl
condition_back Bgeu = refl

pub condition_small : (k : Condition) → branch_funct3 k < 2 ^ 3
condition_small Beq = lit< tt
condition_small Bne = lit< tt
condition_small Blt = lit< tt
condition_small Bge = lit< tt
condition_small Bltu = lit< tt
condition_small Bgeu = lit< tt

pub load_back : (k : LoadKind) → load_kind_of (load_funct3 k) ≡ Some k
load_back Lb = refl
load_back Lh = refl
load_back Lw = refl
load_back Lbu = refl
load_back Lhu = refl

pub load_small : (k : LoadKind) → load_funct3 k < 2 ^ 3
load_small Lb = lit< tt
load_small Lh = lit< tt
load_small Lw = lit< tt
load_small Lbu = lit< tt
load_small Lhu = lit< tt

pub store_back : (k : StoreKind) → store_kind_of (store_funct3 k) ≡ Some k
store_back Sb = refl
store_back Sh = refl
store_back Sw = refl

pub store_small : (k : StoreKind) → store_funct3 k < 2 ^ 3
store_small Sb = lit< tt
store_small Sh = lit< tt
store_small Sw = lit< tt

pub immediate_back : (k : ImmediateOp) → immediate_op_of (immediate_funct3 k) ≡ Some k
immediate_back Addi = refl
immediate_back Slti = refl
immediate_back Sltiu = refl
immediate_back Xori = refl
immediate_back Ori = refl
immediate_back Andi = refl

pub immediate_small : (k : ImmediateOp) → immediate_funct3 k < 2 ^ 3
immediate_small Addi = lit< tt
immediate_small Slti = lit< tt
immediate_small Sltiu = lit< tt
immediate_small Xori = lit< tt
immediate_small Ori = lit< tt
immediate_small Andi = lit< tt

pub shift_no_immediate : (k : ShiftOp) → immediate_op_of (shift_functs k).1 ≡ None
shift_no_immediate Slli = refl
shift_no_immediate Srli = refl
shift_no_immediate Srai = refl

pub shift_back : (k : ShiftOp) → shift_op_of (shift_functs k).0 (shift_functs k).1 ≡ Some k
shift_back Slli = refl
shift_back Srli = refl
shift_back Srai = refl

pub shift_small : (k : ShiftOp) → (shift_functs k).1 < 2 ^ 3
shift_small Slli = lit< tt
shift_small Srli = lit< tt
shift_small Srai = lit< tt

pub register_back : (k : RegisterOp) → register_op_of (register_functs k).0 (register_functs k).1 ≡ Some k
register_back Add = refl
register_back Sub = refl
register_back Sll = refl
register_back Slt = refl
register_back Sltu = refl
register_back Xor = refl
register_back Srl = refl
register_back Sra = refl
register_back Or = refl
register_back And = refl

pub register_small : (k : RegisterOp) → (register_functs k).1 < 2 ^ 3
register_small Add = lit< tt
register_small Sub = lit< tt
register_small Sll = lit< tt
register_small Slt = lit< tt
register_small Sltu = lit< tt
register_small Xor = lit< tt
register_small Srl = lit< tt
register_small Sra = lit< tt
register_small Or = lit< tt
register_small And = lit< tt
