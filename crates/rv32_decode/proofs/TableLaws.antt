-- The table read from a word is the table: what is read has the word, and each instruction that fits
-- is read from its word.
use Rattle.std.proofs.Common.{◌≡◌, ℕ, ◌+◌, ◌*◌, ◌^◌, ◌<◌, ℤ, pos, Bool, cond, Option, Some, None, IfSome, unwrap_or, arith, refl, sym, ap, ◌∙◌, lit<, negsuc, ◌≤ℤ◌, ◌<ℤ◌, subst, true, false}
use Rattle.std.specs.Option.{option_map}
use Rattle.std.specs.Prelude.{◌==◌}
use Rattle.std.proofs.lemmas.Bool.{cond_both, eqb-true}
use Rattle.std.proofs.lemmas.Int.{ints}
use Rattle.rv32_decode.specs.declared.instruction.Insn.{Insn}
use Rattle.rv32_decode.specs.declared.instruction.Insn.TheVariants.{Lui, Auipc, Jal, Jalr, Branch, Load, Save, Imm, Reg, Fence, Ecall, Ebreak}
use Rattle.rv32_decode.specs.declared.instruction.BranchOp.{BranchOp}
use Rattle.rv32_decode.specs.declared.instruction.LoadOp.{LoadOp}
use Rattle.rv32_decode.specs.declared.instruction.SaveOp.{SaveOp}
use Rattle.rv32_decode.specs.declared.instruction.ImmOp.{ImmOp}
use Rattle.rv32_decode.specs.declared.instruction.RegOp.{RegOp}
use Rattle.rv32_decode.specs.Formats.{bits_of, imm_bits, IsSigned, r_type, i_type, s_type, b_type, u_type, j_type}
use Rattle.rv32_decode.specs.Instructions.{LOAD, MISC_MEM, OP_IMM, AUIPC, STORE, OP, LUI, BRANCH, JALR, JAL, branch_funct3, load_funct3, save_funct3, imm_funct3, shift_funct7, reg_functs, imm_word, word_of_insn, Fits, IsWordOf, ImmFits, RegistersFit, rd_of, rs1_of, rs2_of, funct3_of, funct7_of, i_imm, s_imm, b_imm, u_imm, j_imm, branch_of, load_of, save_of, imm_of, reg_of, imm_at, system_of, insn_under, insn_of_word}
use Rattle.rv32_decode.proofs.WordFields.{fields_of_r_type, r_type_of_fields, i_fields, s_fields, b_fields, u_opcode, u_rd, j_opcode, j_rd}
use Rattle.rv32_decode.proofs.Immediates.{signed_fits_12, signed_fits_13, signed_fits_21, signed_fits_32, low_13, low_21, low_32, i_spelled, s_spelled, b_spelled, u_spelled, j_spelled, i_read, s_read, b_read, u_read, j_read}
use Rattle.rv32_decode.proofs.Operations.{branch_again, load_again, save_again, imm_again, reg_again, branch_found, load_found, save_found, imm_found, reg_found, branch_below, load_below, save_below, imm_below, shift_below, reg_below}

-- ---- What is read has the word

IfSome_map : {X : Type 0} (P : X → Type 0) (Q : Insn → Type 0) (f : X → Insn) (o : Option X)
    → IfSome o P → ((x : X) → P x → Q (f x)) → IfSome (option_map f o) Q
IfSome_map P Q f None h step = tt
IfSome_map P Q f (Some x) h step = step x h

-- one test of an opcode
tested : (w n code : ℕ) (x y : Option Insn) → (n ≡ code → IfSome x (IsWordOf w)) → IfSome y (IsWordOf w)
    → IfSome (cond (n == code) x y) (IsWordOf w)
tested w n code x y here later =
    cond_both (n == code) x y (λ o. IfSome o (IsWordOf w)) (λ e. here (eqb-true n code e)) (λ _. later)

lui_found : (w : ℕ) → w < 2 ^ 32 → bits_of 6 0 w ≡ LUI → IsWordOf w (Lui (rd_of w) (u_imm w))
lui_found w h e = record {
  fits = record {
    registers = omega arith;
    immediate = (signed_fits_32 (bits_of 31 12 w * 2 ^ 12) (omega arith), omega (arith, low_32 (bits_of 31 12 w * 2 ^ 12) (omega arith)));
  };
  spelled = u_spelled w h ∙ ap (u_type (u_imm w) (rd_of w)) e;
}

auipc_found : (w : ℕ) → w < 2 ^ 32 → bits_of 6 0 w ≡ AUIPC → IsWordOf w (Auipc (rd_of w) (u_imm w))
auipc_found w h e = record {
  fits = record {
    registers = omega arith;
    immediate = (signed_fits_32 (bits_of 31 12 w * 2 ^ 12) (omega arith), omega (arith, low_32 (bits_of 31 12 w * 2 ^ 12) (omega arith)));
  };
  spelled = u_spelled w h ∙ ap (u_type (u_imm w) (rd_of w)) e;
}

-- the number behind the offset of a jump, and of a branch
j_bits : ℕ → ℕ
j_bits w = bits_of 31 31 w * 2 ^ 20 + bits_of 19 12 w * 2 ^ 12 + bits_of 20 20 w * 2 ^ 11 + bits_of 30 21 w * 2

jal_found : (w : ℕ) → w < 2 ^ 32 → bits_of 6 0 w ≡ JAL → IsWordOf w (Jal (rd_of w) (j_imm w))
unfolding j_bits
jal_found w h e =
    let below : j_bits w < 2 ^ 21 = omega arith in
    let low = low_21 (j_bits w) below in
    record {
      fits = record { registers = omega arith; immediate = (signed_fits_21 (j_bits w) below, omega (arith, low)) };
      spelled = j_spelled w h ∙ ap (j_type (j_imm w) (rd_of w)) e;
    }

jalr_found : (w : ℕ) → w < 2 ^ 32 → bits_of 6 0 w ≡ JALR → funct3_of w ≡ 0 → IsWordOf w (Jalr (rd_of w) (rs1_of w) (i_imm w))
jalr_found w h e f = record {
  fits = record { registers = (omega arith, omega arith); immediate = signed_fits_12 (bits_of 31 20 w) (omega arith) };
  spelled =
      i_spelled w h ∙ ap (λ o. i_type (i_imm w) (rs1_of w) (funct3_of w) (rd_of w) o) e ∙ ap (λ k. i_type (i_imm w) (rs1_of w) k (rd_of w) JALR) f;
}

fence_found : (w : ℕ) → w < 2 ^ 32 → bits_of 6 0 w ≡ MISC_MEM → funct3_of w ≡ 0 → IsWordOf w (Fence (rd_of w) (rs1_of w) (i_imm w))
fence_found w h e f = record {
  fits = record { registers = (omega arith, omega arith); immediate = signed_fits_12 (bits_of 31 20 w) (omega arith) };
  spelled =
      i_spelled w h ∙ ap (λ o. i_type (i_imm w) (rs1_of w) (funct3_of w) (rd_of w) o) e ∙ ap (λ k. i_type (i_imm w) (rs1_of w) k (rd_of w) MISC_MEM) f;
}

branch_found_in : (w : ℕ) → w < 2 ^ 32 → bits_of 6 0 w ≡ BRANCH → (op : BranchOp) → branch_funct3 op ≡ funct3_of w
    → IsWordOf w (Branch op (rs1_of w) (rs2_of w) (b_imm w))
branch_found_in w h e op f =
    let n = bits_of 31 31 w * 2 ^ 12 + bits_of 7 7 w * 2 ^ 11 + bits_of 30 25 w * 2 ^ 5 + bits_of 11 8 w * 2 in
    let below : n < 2 ^ 13 = omega arith in
    let low = low_13 n below in
    record {
      fits = record { registers = (omega arith, omega arith); immediate = (signed_fits_13 n below, omega (arith, low)) };
      spelled =
          b_spelled w h ∙ ap (λ o. b_type (b_imm w) (rs2_of w) (rs1_of w) (funct3_of w) o) e
          ∙ ap (λ k. b_type (b_imm w) (rs2_of w) (rs1_of w) k BRANCH) (sym f);
    }

load_found_in : (w : ℕ) → w < 2 ^ 32 → bits_of 6 0 w ≡ LOAD → (op : LoadOp) → load_funct3 op ≡ funct3_of w
    → IsWordOf w (Load op (rd_of w) (rs1_of w) (i_imm w))
load_found_in w h e op f = record {
  fits = record { registers = (omega arith, omega arith); immediate = signed_fits_12 (bits_of 31 20 w) (omega arith) };
  spelled =
      i_spelled w h ∙ ap (λ o. i_type (i_imm w) (rs1_of w) (funct3_of w) (rd_of w) o) e ∙ ap (λ k. i_type (i_imm w) (rs1_of w) k (rd_of w) LOAD) (sym f);
}

save_found_in : (w : ℕ) → w < 2 ^ 32 → bits_of 6 0 w ≡ STORE → (op : SaveOp) → save_funct3 op ≡ funct3_of w
    → IsWordOf w (Save op (rs1_of w) (rs2_of w) (s_imm w))
save_found_in w h e op f = record {
  fits = record { registers = (omega arith, omega arith); immediate = signed_fits_12 (bits_of 31 25 w * 2 ^ 5 + bits_of 11 7 w) (omega arith) };
  spelled =
      s_spelled w h ∙ ap (λ o. s_type (s_imm w) (rs2_of w) (rs1_of w) (funct3_of w) o) e
      ∙ ap (λ k. s_type (s_imm w) (rs2_of w) (rs1_of w) k STORE) (sym f);
}

reg_found_in : (w : ℕ) → w < 2 ^ 32 → bits_of 6 0 w ≡ OP → (op : RegOp) → ((reg_functs op).0 ≡ funct7_of w) × ((reg_functs op).1 ≡ funct3_of w)
    → IsWordOf w (Reg op (rd_of w) (rs1_of w) (rs2_of w))
reg_found_in w h e op f = record {
  fits = record { registers = (omega arith, omega arith, omega arith); immediate = tt };
  spelled =
      r_type_of_fields w h ∙ ap (λ o. r_type (funct7_of w) (rs2_of w) (rs1_of w) (funct3_of w) (rd_of w) o) e
      ∙ ap (λ k. r_type k (rs2_of w) (rs1_of w) (funct3_of w) (rd_of w) OP) (sym f.0)
      ∙ ap (λ k. r_type (reg_functs op).0 (rs2_of w) (rs1_of w) k (rd_of w) OP) (sym f.1);
}

imm_fits_at : (w : ℕ) (fixed : Option ℕ) → ImmFits fixed (imm_at fixed w)
imm_fits_at w None = signed_fits_12 (bits_of 31 20 w) (omega arith)
imm_fits_at w (Some funct7) = (omega (arith, ints), omega (arith, ints))

imm_spelled : (w : ℕ) → w < 2 ^ 32 → bits_of 6 0 w ≡ OP_IMM → (fixed : Option ℕ) (f3 : ℕ) → f3 ≡ funct3_of w
    → unwrap_or fixed (funct7_of w) ≡ funct7_of w → w ≡ imm_word fixed f3 (rd_of w) (rs1_of w) (imm_at fixed w)
imm_spelled w h e None f3 f g =
    i_spelled w h ∙ ap (λ o. i_type (i_imm w) (rs1_of w) (funct3_of w) (rd_of w) o) e ∙ ap (λ k. i_type (i_imm w) (rs1_of w) k (rd_of w) OP_IMM) (sym f)
imm_spelled w h e (Some funct7) f3 f g = omega (arith, r_type_of_fields w h)

imm_found_in : (w : ℕ) → w < 2 ^ 32 → bits_of 6 0 w ≡ OP_IMM → (op : ImmOp)
    → (imm_funct3 op ≡ funct3_of w) × (unwrap_or (shift_funct7 op) (funct7_of w) ≡ funct7_of w)
    → IsWordOf w (Imm op (rd_of w) (rs1_of w) (imm_at (shift_funct7 op) w))
imm_found_in w h e op f = record {
  fits = record { registers = (omega arith, omega arith); immediate = imm_fits_at w (shift_funct7 op) };
  spelled = imm_spelled w h e (shift_funct7 op) (imm_funct3 op) f.0 f.1;
}

none_else : (w : ℕ) (b : Bool) (insn : Insn) → (b ≡ true → IsWordOf w insn) → IfSome (cond b (Some insn) None) (IsWordOf w)
none_else w b insn h = cond_both b (Some insn) None (λ o. IfSome o (IsWordOf w)) h (λ _. tt)

system_found : (w : ℕ) → IfSome (system_of w) (IsWordOf w)
system_found w =
    tested w w 0x00000073 (Some Ecall) (cond (w == 0x00100073) (Some Ebreak) None) (λ e. record { fits = record { registers = tt; immediate = tt }; spelled = e })
    (none_else w (w == 0x00100073) Ebreak (λ e. record { fits = record { registers = tt; immediate = tt }; spelled = eqb-true w 0x00100073 e }))

pub insn_found : (w : ℕ) → w < 2 ^ 32 → IfSome (insn_of_word w) (IsWordOf w)
unfolding insn_of_word insn_under
insn_found w h =
    let opcode = bits_of 6 0 w in
    tested w opcode LUI _ _ (lui_found w h) (tested w opcode AUIPC _ _ (auipc_found w h) (tested w opcode JAL _ _ (jal_found w h)
    (tested w opcode JALR _ _ (λ e. none_else w (funct3_of w == 0) _ (λ f. jalr_found w h e (eqb-true (funct3_of w) 0 f)))
    (tested w opcode BRANCH _ _ (λ e. IfSome_map _ _ _ (branch_of (funct3_of w)) (branch_found (funct3_of w)) (branch_found_in w h e))
    (tested w opcode LOAD _ _ (λ e. IfSome_map _ _ _ (load_of (funct3_of w)) (load_found (funct3_of w)) (load_found_in w h e))
    (tested w opcode STORE _ _ (λ e. IfSome_map _ _ _ (save_of (funct3_of w)) (save_found (funct3_of w)) (save_found_in w h e))
    (tested w opcode OP_IMM _ _ (λ e. IfSome_map _ _ _ (imm_of (funct7_of w) (funct3_of w)) (imm_found (funct7_of w) (funct3_of w)) (imm_found_in w h e))
    (tested w opcode OP _ _ (λ e. IfSome_map _ _ _ (reg_of (funct7_of w) (funct3_of w)) (reg_found (funct7_of w) (funct3_of w)) (reg_found_in w h e))
    (tested w opcode MISC_MEM _ _ (λ e. none_else w (funct3_of w == 0) _ (λ f. fence_found w h e (eqb-true (funct3_of w) 0 f)))
    (system_found w))))))))))

-- ---- Each instruction that fits is read from its word

same_2 : {A B C : Type 0} (f : A → B → C) (a a' : A) (b b' : B) → a ≡ a' → b ≡ b' → f a b ≡ f a' b'
same_2 f a a' b b' p q = cc

same_3 : {A B C D : Type 0} (f : A → B → C → D) (a a' : A) (b b' : B) (c c' : C) → a ≡ a' → b ≡ b' → c ≡ c' → f a b c ≡ f a' b' c'
same_3 f a a' b b' c c' p q r = cc

lui_read : (rd : ℕ) (z : ℤ) → rd < 32 → IsSigned 32 z → imm_bits 11 0 z ≡ 0 → insn_of_word (u_type z rd LUI) ≡ Some (Lui rd z)
unfolding insn_of_word insn_under
lui_read rd z a h e =
    ap (λ o. insn_under o (u_type z rd LUI)) (u_opcode z rd LUI a (lit< tt))
    ∙ same_2 (λ x y. Some (Lui x y)) _ _ _ _ (u_rd z rd LUI a (lit< tt)) (u_read z rd LUI h e a (lit< tt))

auipc_read : (rd : ℕ) (z : ℤ) → rd < 32 → IsSigned 32 z → imm_bits 11 0 z ≡ 0 → insn_of_word (u_type z rd AUIPC) ≡ Some (Auipc rd z)
unfolding insn_of_word insn_under
auipc_read rd z a h e =
    ap (λ o. insn_under o (u_type z rd AUIPC)) (u_opcode z rd AUIPC a (lit< tt))
    ∙ same_2 (λ x y. Some (Auipc x y)) _ _ _ _ (u_rd z rd AUIPC a (lit< tt)) (u_read z rd AUIPC h e a (lit< tt))

jal_read : (rd : ℕ) (z : ℤ) → rd < 32 → IsSigned 21 z → imm_bits 0 0 z ≡ 0 → insn_of_word (j_type z rd JAL) ≡ Some (Jal rd z)
unfolding insn_of_word insn_under
jal_read rd z a h e =
    ap (λ o. insn_under o (j_type z rd JAL)) (j_opcode z rd JAL a (lit< tt))
    ∙ same_2 (λ x y. Some (Jal x y)) _ _ _ _ (j_rd z rd JAL a (lit< tt)) (j_read z rd JAL h e a (lit< tt))

jalr_read : (rd rs1 : ℕ) (z : ℤ) → rd < 32 → rs1 < 32 → IsSigned 12 z → insn_of_word (i_type z rs1 0 rd JALR) ≡ Some (Jalr rd rs1 z)
unfolding insn_of_word insn_under
jalr_read rd rs1 z a b h =
    let w = i_type z rs1 0 rd JALR in
    let fs = i_fields z rs1 0 rd JALR b (lit< tt) a (lit< tt) in
    ap (λ o. insn_under o w) fs.opcode_is ∙ ap (λ k. cond (k == 0) (Some (Jalr (rd_of w) (rs1_of w) (i_imm w))) None) fs.funct3_is
    ∙ same_3 (λ x y v. Some (Jalr x y v)) _ _ _ _ _ _ fs.rd_is fs.rs1_is (i_read z rs1 0 rd JALR h b (lit< tt) a (lit< tt))

fence_read : (rd rs1 : ℕ) (z : ℤ) → rd < 32 → rs1 < 32 → IsSigned 12 z → insn_of_word (i_type z rs1 0 rd MISC_MEM) ≡ Some (Fence rd rs1 z)
unfolding insn_of_word insn_under
fence_read rd rs1 z a b h =
    let w = i_type z rs1 0 rd MISC_MEM in
    let fs = i_fields z rs1 0 rd MISC_MEM b (lit< tt) a (lit< tt) in
    ap (λ o. insn_under o w) fs.opcode_is ∙ ap (λ k. cond (k == 0) (Some (Fence (rd_of w) (rs1_of w) (i_imm w))) None) fs.funct3_is
    ∙ same_3 (λ x y v. Some (Fence x y v)) _ _ _ _ _ _ fs.rd_is fs.rs1_is (i_read z rs1 0 rd MISC_MEM h b (lit< tt) a (lit< tt))

branch_read : (op : BranchOp) (rs1 rs2 : ℕ) (z : ℤ) → rs1 < 32 → rs2 < 32 → IsSigned 13 z → imm_bits 0 0 z ≡ 0
    → insn_of_word (b_type z rs2 rs1 (branch_funct3 op) BRANCH) ≡ Some (Branch op rs1 rs2 z)
unfolding insn_of_word insn_under
branch_read op rs1 rs2 z a b h e =
    let f3 = branch_funct3 op in
    let w = b_type z rs2 rs1 f3 BRANCH in
    let fs = b_fields z rs2 rs1 f3 BRANCH b a (branch_below op) (lit< tt) in
    ap (λ o. insn_under o w) fs.opcode_is
    ∙ ap (option_map (λ o. Branch o (rs1_of w) (rs2_of w) (b_imm w))) (ap branch_of fs.funct3_is ∙ branch_again op)
    ∙ same_3 (λ x y v. Some (Branch op x y v)) _ _ _ _ _ _ fs.rs1_is fs.rs2_is (b_read z rs2 rs1 f3 BRANCH h e b a (branch_below op) (lit< tt))

load_read : (op : LoadOp) (rd rs1 : ℕ) (z : ℤ) → rd < 32 → rs1 < 32 → IsSigned 12 z
    → insn_of_word (i_type z rs1 (load_funct3 op) rd LOAD) ≡ Some (Load op rd rs1 z)
unfolding insn_of_word insn_under
load_read op rd rs1 z a b h =
    let f3 = load_funct3 op in
    let w = i_type z rs1 f3 rd LOAD in
    let fs = i_fields z rs1 f3 rd LOAD b (load_below op) a (lit< tt) in
    ap (λ o. insn_under o w) fs.opcode_is
    ∙ ap (option_map (λ o. Load o (rd_of w) (rs1_of w) (i_imm w))) (ap load_of fs.funct3_is ∙ load_again op)
    ∙ same_3 (λ x y v. Some (Load op x y v)) _ _ _ _ _ _ fs.rd_is fs.rs1_is (i_read z rs1 f3 rd LOAD h b (load_below op) a (lit< tt))

save_read : (op : SaveOp) (rs1 rs2 : ℕ) (z : ℤ) → rs1 < 32 → rs2 < 32 → IsSigned 12 z
    → insn_of_word (s_type z rs2 rs1 (save_funct3 op) STORE) ≡ Some (Save op rs1 rs2 z)
unfolding insn_of_word insn_under
save_read op rs1 rs2 z a b h =
    let f3 = save_funct3 op in
    let w = s_type z rs2 rs1 f3 STORE in
    let fs = s_fields z rs2 rs1 f3 STORE b a (save_below op) (lit< tt) in
    ap (λ o. insn_under o w) fs.opcode_is
    ∙ ap (option_map (λ o. Save o (rs1_of w) (rs2_of w) (s_imm w))) (ap save_of fs.funct3_is ∙ save_again op)
    ∙ same_3 (λ x y v. Some (Save op x y v)) _ _ _ _ _ _ fs.rs1_is fs.rs2_is (s_read z rs2 rs1 f3 STORE h b a (save_below op) (lit< tt))

reg_read : (op : RegOp) (rd rs1 rs2 : ℕ) → rd < 32 → rs1 < 32 → rs2 < 32
    → insn_of_word (r_type (reg_functs op).0 rs2 rs1 (reg_functs op).1 rd OP) ≡ Some (Reg op rd rs1 rs2)
unfolding insn_of_word insn_under
reg_read op rd rs1 rs2 a b c =
    let f7 = (reg_functs op).0 in
    let f3 = (reg_functs op).1 in
    let w = r_type f7 rs2 rs1 f3 rd OP in
    let fs = fields_of_r_type f7 rs2 rs1 f3 rd OP (reg_below op).0 c b (reg_below op).1 a (lit< tt) in
    ap (λ o. insn_under o w) fs.opcode_is
    ∙ ap (option_map (λ o. Reg o (rd_of w) (rs1_of w) (rs2_of w))) (same_2 reg_of _ _ _ _ fs.funct7_is fs.funct3_is ∙ reg_again op)
    ∙ same_3 (λ x y v. Some (Reg op x y v)) _ _ _ _ _ _ fs.rd_is fs.rs1_is fs.rs2_is

-- a word under OP_IMM, with its operation's funct7 and funct3
imm_read_from : (w : ℕ) (op : ImmOp) (rd rs1 : ℕ) (z : ℤ) → bits_of 6 0 w ≡ OP_IMM → funct3_of w ≡ imm_funct3 op
    → funct7_of w ≡ unwrap_or (shift_funct7 op) (funct7_of w) → rd_of w ≡ rd → rs1_of w ≡ rs1 → imm_at (shift_funct7 op) w ≡ z
    → insn_of_word w ≡ Some (Imm op rd rs1 z)
unfolding insn_of_word insn_under
imm_read_from w op rd rs1 z opcode_is funct3_is funct7_is rd_is rs1_is z_is =
    ap (λ o. insn_under o w) opcode_is
    ∙ ap
    (option_map (λ o. Imm o (rd_of w) (rs1_of w) (imm_at (shift_funct7 o) w)))
    (same_2 imm_of _ _ _ _ funct7_is funct3_is ∙ imm_again op (funct7_of w))
    ∙ same_3 (λ x y v. Some (Imm op x y v)) _ _ _ _ _ _ rd_is rs1_is z_is

shift_back : (z : ℤ) → pos 0 ≤ℤ z → z <ℤ pos 32 → pos (imm_bits 4 0 z) ≡ z
shift_back (pos n) low high = grind (arith, ints)
shift_back (negsuc n) low high = grind (arith, ints)

imm_read_by : (fixed : Option ℕ) (w f3 rd rs1 : ℕ) (z : ℤ) → w ≡ imm_word fixed f3 rd rs1 z → ImmFits fixed z → unwrap_or fixed 0 < 128
    → f3 < 8 → rd < 32 → rs1 < 32
    → (bits_of 6 0 w ≡ OP_IMM) × (funct3_of w ≡ f3) × (funct7_of w ≡ unwrap_or fixed (funct7_of w)) × (rd_of w ≡ rd) × (rs1_of w ≡ rs1)
    × (imm_at fixed w ≡ z)
imm_read_by None w f3 rd rs1 z e h below a b c =
    let fs = i_fields z rs1 f3 rd OP_IMM c a b (lit< tt) in (
      ap (bits_of 6 0) e ∙ fs.opcode_is,
      ap funct3_of e ∙ fs.funct3_is,
      refl,
      ap rd_of e ∙ fs.rd_is,
      ap rs1_of e ∙ fs.rs1_is,
      ap i_imm e ∙ i_read z rs1 f3 rd OP_IMM h c a b (lit< tt),
    )
imm_read_by (Some f7) w f3 rd rs1 z e h below a b c =
    let fs = fields_of_r_type f7 (imm_bits 4 0 z) rs1 f3 rd OP_IMM below (omega arith) c a b (lit< tt) in (
      ap (bits_of 6 0) e ∙ fs.opcode_is,
      ap funct3_of e ∙ fs.funct3_is,
      ap funct7_of e ∙ fs.funct7_is,
      ap rd_of e ∙ fs.rd_is,
      ap rs1_of e ∙ fs.rs1_is,
      ap (λ k. pos (rs2_of k)) e ∙ ap pos fs.rs2_is ∙ shift_back z h.0 h.1,
    )

imm_read : (op : ImmOp) (rd rs1 : ℕ) (z : ℤ) → rd < 32 → rs1 < 32 → ImmFits (shift_funct7 op) z
    → insn_of_word (imm_word (shift_funct7 op) (imm_funct3 op) rd rs1 z) ≡ Some (Imm op rd rs1 z)
imm_read op rd rs1 z a b h =
    let w = imm_word (shift_funct7 op) (imm_funct3 op) rd rs1 z in
    let is = imm_read_by (shift_funct7 op) w (imm_funct3 op) rd rs1 z refl h (shift_below op) (imm_below op) a b in
    imm_read_from w op rd rs1 z is.0 is.1 is.2 is.3 is.4 is.5

insn_read : (insn : Insn) → Fits insn → insn_of_word (word_of_insn insn) ≡ Some insn
unfolding insn_of_word insn_under
insn_read (Lui rd imm) h = lui_read rd imm h.registers h.immediate.0 h.immediate.1
insn_read (Auipc rd imm) h = auipc_read rd imm h.registers h.immediate.0 h.immediate.1
insn_read (Jal rd offset) h = jal_read rd offset h.registers h.immediate.0 h.immediate.1
insn_read (Jalr rd rs1 offset) h = jalr_read rd rs1 offset h.registers.0 h.registers.1 h.immediate
insn_read (Branch op rs1 rs2 offset) h = branch_read op rs1 rs2 offset h.registers.0 h.registers.1 h.immediate.0 h.immediate.1
insn_read (Load op rd rs1 offset) h = load_read op rd rs1 offset h.registers.0 h.registers.1 h.immediate
insn_read (Save op rs1 rs2 offset) h = save_read op rs1 rs2 offset h.registers.0 h.registers.1 h.immediate
insn_read (Imm op rd rs1 imm) h = imm_read op rd rs1 imm h.registers.0 h.registers.1 h.immediate
insn_read (Reg op rd rs1 rs2) h = reg_read op rd rs1 rs2 h.registers.0 h.registers.1 h.registers.2
insn_read (Fence rd rs1 imm) h = fence_read rd rs1 imm h.registers.0 h.registers.1 h.immediate
insn_read Ecall h = refl
insn_read Ebreak h = refl

pub insn_only : (w : ℕ) (insn : Insn) → IsWordOf w insn → insn_of_word w ≡ Some insn
insn_only w insn h = ap insn_of_word h.spelled ∙ insn_read insn h.fits

-- ---- The registers of an instruction that a word of any size gives

either_fits : (b : Bool) (x y : Option Insn) → IfSome x RegistersFit → IfSome y RegistersFit → IfSome (cond b x y) RegistersFit
either_fits true x y p q = p
either_fits false x y p q = q

map_fits : {X : Type 0} (f : X → Insn) (o : Option X) → ((x : X) → RegistersFit (f x)) → IfSome (option_map f o) RegistersFit
map_fits f None h = tt
map_fits f (Some x) h = h x

registers_under : (opcode w : ℕ) → IfSome (insn_under opcode w) RegistersFit
unfolding insn_under
registers_under opcode w =
    let d : rd_of w < 32 = omega arith in
    let a : rs1_of w < 32 = omega arith in
    let b : rs2_of w < 32 = omega arith in
    either_fits (opcode == LUI) _ _ d (either_fits (opcode == AUIPC) _ _ d (either_fits (opcode == JAL) _ _ d
    (either_fits (opcode == JALR) _ _ (either_fits (funct3_of w == 0) _ _ (d, a) tt)
    (either_fits (opcode == BRANCH) _ _ (map_fits _ (branch_of (funct3_of w)) (λ op. (a, b)))
    (either_fits (opcode == LOAD) _ _ (map_fits _ (load_of (funct3_of w)) (λ op. (d, a)))
    (either_fits (opcode == STORE) _ _ (map_fits _ (save_of (funct3_of w)) (λ op. (a, b)))
    (either_fits (opcode == OP_IMM) _ _ (map_fits _ (imm_of (funct7_of w) (funct3_of w)) (λ op. (d, a)))
    (either_fits (opcode == OP) _ _ (map_fits _ (reg_of (funct7_of w) (funct3_of w)) (λ op. (d, a, b)))
    (either_fits (opcode == MISC_MEM) _ _ (either_fits (funct3_of w == 0) _ _ (d, a) tt)
    (either_fits (w == 0x00000073) _ _ tt (either_fits (w == 0x00100073) _ _ tt tt)))))))))))

at_some : (o : Option Insn) (insn : Insn) → IfSome o RegistersFit → o ≡ Some insn → RegistersFit insn
at_some o insn fits e = subst (λ (found : Option Insn). IfSome found RegistersFit) e fits

pub registers_fit : (w : ℕ) (insn : Insn) → insn_of_word w ≡ Some insn → RegistersFit insn
unfolding insn_of_word
registers_fit w insn e = at_some (insn_under (bits_of 6 0 w) w) insn (registers_under (bits_of 6 0 w) w) e
