-- A word is decoded to each instruction that has it.
use Rattle.std.proofs.Common.{◌≡◌, ℕ, Some, ap, ◌∙◌, arith, lit<}
use Rattle.decode.specs.declared.instruction.Instruction.{Instruction}
use Rattle.decode.specs.declared.instruction.Instruction.TheVariants.{Lui, Auipc, Jal, Jalr, Branch, Load, Store, Immediate, Shift, Register, Fence, Ecall}
use Rattle.decode.specs.Fields.{opcode_of}
use Rattle.decode.specs.Decoded.{condition_of, load_kind_of, store_kind_of, immediate_op_of, shift_op_of, register_op_of, branch_with, load_with, store_with, shift_with, immediate_with, register_with, jalr_with, fence_with, classed, decoded}
use Rattle.decode.specs.Encodes.{branch_funct3, load_funct3, store_funct3, immediate_funct3, shift_functs, register_functs, Encodes}
use Rattle.decode.proofs.Formats.{found_format_R, found_format_I, found_format_shift, found_format_S, found_format_B, found_format_U, found_format_J}
use Rattle.decode.proofs.Codes.{condition_back, condition_small, load_back, load_small, store_back, store_small, immediate_back, immediate_small, shift_no_immediate, shift_back, shift_small, register_back, register_small}

module _ (w : ℕ) where
  at_opcode : (o : ℕ) → opcode_of w ≡ o → decoded w ≡ classed w o
  at_opcode o e = ap (classed w) e

  pub only : (i : Instruction) → Encodes i w → decoded w ≡ Some i
  only (Lui rd upper) e =
      let h = found_format_U w upper rd 0x37 (lit< tt) e in
      at_opcode 0x37 h.opcode_is ∙ (λ j. Some (Lui (h.rd_is j) (h.upper_is j)))
  only (Auipc rd upper) e =
      let h = found_format_U w upper rd 0x17 (lit< tt) e in
      at_opcode 0x17 h.opcode_is ∙ (λ j. Some (Auipc (h.rd_is j) (h.upper_is j)))
  only (Jal rd offset) e =
      let h = found_format_J w offset rd 0x6f (lit< tt) e in
      at_opcode 0x6f h.opcode_is ∙ (λ j. Some (Jal (h.rd_is j) (h.imm_is j)))
  only (Jalr rd rs1 offset) e =
      let h = found_format_I w offset rs1 0 rd 0x67 (lit< tt) (lit< tt) e in
      at_opcode 0x67 h.opcode_is ∙ ap (jalr_with w) h.funct3_is ∙ (λ j. Some (Jalr (h.rd_is j) (h.rs1_is j) (h.imm_is j)))
  only (Branch on rs1 rs2 offset) e =
      let h = found_format_B w offset rs2 rs1 (branch_funct3 on) 0x63 (condition_small on) (lit< tt) e in
      at_opcode 0x63 h.opcode_is ∙ ap (λ f. branch_with w (condition_of f)) h.funct3_is ∙ ap (branch_with w) (condition_back on)
      ∙ (λ j. Some (Branch on (h.rs1_is j) (h.rs2_is j) (h.imm_is j)))
  only (Load kind rd rs1 offset) e =
      let h = found_format_I w offset rs1 (load_funct3 kind) rd 0x03 (load_small kind) (lit< tt) e in
      at_opcode 0x03 h.opcode_is ∙ ap (λ f. load_with w (load_kind_of f)) h.funct3_is ∙ ap (load_with w) (load_back kind)
      ∙ (λ j. Some (Load kind (h.rd_is j) (h.rs1_is j) (h.imm_is j)))
  only (Store kind rs1 rs2 offset) e =
      let h = found_format_S w offset rs2 rs1 (store_funct3 kind) 0x23 (store_small kind) (lit< tt) e in
      at_opcode 0x23 h.opcode_is ∙ ap (λ f. store_with w (store_kind_of f)) h.funct3_is ∙ ap (store_with w) (store_back kind)
      ∙ (λ j. Some (Store kind (h.rs1_is j) (h.rs2_is j) (h.imm_is j)))
  only (Immediate op rd rs1 operand) e =
      let h = found_format_I w operand rs1 (immediate_funct3 op) rd 0x13 (immediate_small op) (lit< tt) e in
      at_opcode 0x13 h.opcode_is ∙ ap (λ f. immediate_with w (immediate_op_of f)) h.funct3_is ∙ ap (immediate_with w) (immediate_back op)
      ∙ (λ j. Some (Immediate op (h.rd_is j) (h.rs1_is j) (h.imm_is j)))
  only (Shift op rd rs1 amount) e =
      let h = found_format_shift w (shift_functs op).0 amount rs1 (shift_functs op).1 rd 0x13 (shift_small op) (lit< tt) e in
      at_opcode 0x13 h.opcode_is ∙ ap (λ f. immediate_with w (immediate_op_of f)) h.funct3_is ∙ ap (immediate_with w) (shift_no_immediate op)
      ∙ (λ j. shift_with w (shift_op_of (h.funct7_is j) (h.funct3_is j))) ∙ ap (shift_with w) (shift_back op)
      ∙ (λ j. Some (Shift op (h.rd_is j) (h.rs1_is j) (h.amount_is j)))
  only (Register op rd rs1 rs2) e =
      let h = found_format_R w (register_functs op).0 rs2 rs1 (register_functs op).1 rd 0x33 (register_small op) (lit< tt) e in
      at_opcode 0x33 h.opcode_is ∙ (λ j. register_with w (register_op_of (h.funct7_is j) (h.funct3_is j))) ∙ ap (register_with w) (register_back op)
      ∙ (λ j. Some (Register op (h.rd_is j) (h.rs1_is j) (h.rs2_is j)))
  only Fence (o, f) = at_opcode 0x0f (omega arith) ∙ ap fence_with f
  only Ecall e = ap decoded e
