-- What a word is decoded to has that word.
use Rattle.std.proofs.Common.{◌≡◌, ℕ, ◌^◌, ◌<◌, cond, eqb, Some, None, Option, subst, arith}
use Rattle.std.proofs.lemmas.Bool.{cond_both, eqb-true}
use Rattle.decode.specs.declared.instruction.Instruction.{Instruction}
use Rattle.decode.specs.declared.instruction.Condition.{Condition}
use Rattle.decode.specs.declared.instruction.LoadKind.{LoadKind}
use Rattle.decode.specs.declared.instruction.StoreKind.{StoreKind}
use Rattle.decode.specs.declared.instruction.ImmediateOp.{ImmediateOp}
use Rattle.decode.specs.declared.instruction.ShiftOp.{ShiftOp}
use Rattle.decode.specs.declared.instruction.RegisterOp.{RegisterOp}
use Rattle.decode.specs.Fields.{opcode_of, rd_of, funct3_of, rs1_of, rs2_of, funct7_of, amount_of, immediate_i, immediate_s, immediate_b, immediate_u, immediate_j}
use Rattle.decode.specs.Decoded.{condition_of, load_kind_of, store_kind_of, immediate_op_of, shift_op_of, register_op_of, branch_with, load_with, store_with, shift_with, immediate_with, register_with, jalr_with, fence_with, system_of, decoded}
use Rattle.decode.specs.Encodes.{branch_funct3, load_funct3, store_funct3, immediate_funct3, shift_functs, register_functs, FormatR, FormatI, FormatShift, FormatS, FormatB, FormatU, FormatJ, Encodes}
use Rattle.decode.proofs.Formats.{made_format_R, made_format_I, made_format_shift, made_format_S, made_format_B, made_format_U, made_format_J}
use Rattle.decode.proofs.Codes.{Told, ShiftTold, RegisterTold, condition_told, load_told, store_told, immediate_told, shift_told, register_told}

module _ (w : ℕ) (fits : w < 2 ^ 32) where
  abbrev Right : Option Instruction → Type 0
  Right o = Told (λ i. Encodes i w) o

  as_U : (o : ℕ) → opcode_of w ≡ o → FormatU (immediate_u w) (rd_of w) o w
  as_U o e = subst (λ n. FormatU (immediate_u w) (rd_of w) n w) e (made_format_U w fits)

  as_J : (o : ℕ) → opcode_of w ≡ o → FormatJ (immediate_j w) (rd_of w) o w
  as_J o e = subst (λ n. FormatJ (immediate_j w) (rd_of w) n w) e (made_format_J w fits)

  as_I : (o f : ℕ) → opcode_of w ≡ o → funct3_of w ≡ f → FormatI (immediate_i w) (rs1_of w) f (rd_of w) o w
  as_I o f e d =
      subst (λ n. FormatI (immediate_i w) (rs1_of w) f (rd_of w) n w) e
      (subst (λ n. FormatI (immediate_i w) (rs1_of w) n (rd_of w) (opcode_of w) w) d (made_format_I w fits))

  as_S : (o f : ℕ) → opcode_of w ≡ o → funct3_of w ≡ f → FormatS (immediate_s w) (rs2_of w) (rs1_of w) f o w
  as_S o f e d =
      subst (λ n. FormatS (immediate_s w) (rs2_of w) (rs1_of w) f n w) e
      (subst (λ n. FormatS (immediate_s w) (rs2_of w) (rs1_of w) n (opcode_of w) w) d (made_format_S w fits))

  as_B : (o f : ℕ) → opcode_of w ≡ o → funct3_of w ≡ f → FormatB (immediate_b w) (rs2_of w) (rs1_of w) f o w
  as_B o f e d =
      subst (λ n. FormatB (immediate_b w) (rs2_of w) (rs1_of w) f n w) e
      (subst (λ n. FormatB (immediate_b w) (rs2_of w) (rs1_of w) n (opcode_of w) w) d (made_format_B w fits))

  as_R : (o g f : ℕ) → opcode_of w ≡ o → funct7_of w ≡ g → funct3_of w ≡ f → FormatR g (rs2_of w) (rs1_of w) f (rd_of w) o w
  as_R o g f e c d =
      subst (λ n. FormatR g (rs2_of w) (rs1_of w) f (rd_of w) n w) e
      (subst (λ n. FormatR g (rs2_of w) (rs1_of w) n (rd_of w) (opcode_of w) w) d
      (subst (λ n. FormatR n (rs2_of w) (rs1_of w) (funct3_of w) (rd_of w) (opcode_of w) w) c (made_format_R w fits)))

  as_shift : (o g f : ℕ) → opcode_of w ≡ o → funct7_of w ≡ g → funct3_of w ≡ f → FormatShift g (amount_of w) (rs1_of w) f (rd_of w) o w
  as_shift o g f e c d = ((made_format_shift w fits).0, as_R o g f e c d)

  branches : (o : Option Condition) → Told (λ k. funct3_of w ≡ branch_funct3 k) o → opcode_of w ≡ 0x63 → Right (branch_with w o)
  branches None t e = tt
  branches (Some k) t e = as_B 0x63 (branch_funct3 k) e t

  loads : (o : Option LoadKind) → Told (λ k. funct3_of w ≡ load_funct3 k) o → opcode_of w ≡ 0x03 → Right (load_with w o)
  loads None t e = tt
  loads (Some k) t e = as_I 0x03 (load_funct3 k) e t

  stores : (o : Option StoreKind) → Told (λ k. funct3_of w ≡ store_funct3 k) o → opcode_of w ≡ 0x23 → Right (store_with w o)
  stores None t e = tt
  stores (Some k) t e = as_S 0x23 (store_funct3 k) e t

  shifts : (o : Option ShiftOp) → Told (ShiftTold (funct7_of w) (funct3_of w)) o → opcode_of w ≡ 0x13 → Right (shift_with w o)
  shifts None t e = tt
  shifts (Some k) t e = as_shift 0x13 (shift_functs k).0 (shift_functs k).1 e t.0 t.1

  immediates : (o : Option ImmediateOp) → Told (λ k. funct3_of w ≡ immediate_funct3 k) o → opcode_of w ≡ 0x13 → Right (immediate_with w o)
  immediates None t e = shifts (shift_op_of (funct7_of w) (funct3_of w)) (shift_told (funct7_of w) (funct3_of w)) e
  immediates (Some k) t e = as_I 0x13 (immediate_funct3 k) e t

  registers : (o : Option RegisterOp) → Told (RegisterTold (funct7_of w) (funct3_of w)) o → opcode_of w ≡ 0x33 → Right (register_with w o)
  registers None t e = tt
  registers (Some k) t e = as_R 0x33 (register_functs k).0 (register_functs k).1 e t.0 t.1

  -- One test of the opcode.
  step : (n : ℕ) (x y : Option Instruction) → (opcode_of w ≡ n → Right x) → Right y → Right (cond (eqb (opcode_of w) n) x y)
  step n x y here later = cond_both (eqb (opcode_of w) n) x y Right (λ e. here (eqb-true (opcode_of w) n e)) (λ _. later)

  jumps : opcode_of w ≡ 0x67 → Right (jalr_with w (funct3_of w))
  jumps e = cond_both (eqb (funct3_of w) 0) _ _ Right (λ z. as_I 0x67 0 e (eqb-true (funct3_of w) 0 z)) (λ _. tt)

  fences : opcode_of w ≡ 0x0f → Right (fence_with (funct3_of w))
  fences e = cond_both (eqb (funct3_of w) 0) _ _ Right (λ z. (omega arith, eqb-true (funct3_of w) 0 z)) (λ _. tt)

  calls : Right (system_of w)
  calls = cond_both (eqb w 0x73) _ _ Right (λ z. eqb-true w 0x73 z) (λ _. tt)

  right : Right (decoded w)
  right =
      step 0x37 _ _ (as_U 0x37) (step 0x17 _ _ (as_U 0x17) (step 0x6f _ _ (as_J 0x6f) (step 0x67 _ _ jumps
      (step 0x63 _ _ (branches (condition_of (funct3_of w)) (condition_told (funct3_of w)))
      (step 0x03 _ _ (loads (load_kind_of (funct3_of w)) (load_told (funct3_of w)))
      (step 0x23 _ _ (stores (store_kind_of (funct3_of w)) (store_told (funct3_of w)))
      (step 0x13 _ _ (immediates (immediate_op_of (funct3_of w)) (immediate_told (funct3_of w)))
      (step 0x33 _ _ (registers (register_op_of (funct7_of w) (funct3_of w)) (register_told (funct7_of w) (funct3_of w)))
      (step 0x0f _ _ fences (step 0x73 _ _ (λ _. calls) tt))))))))))

  pub encodes : (i : Instruction) → decoded w ≡ Some i → Encodes i w
  encodes i e = subst Right e right
