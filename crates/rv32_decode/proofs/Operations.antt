-- The operations and their functs: each is found by its own, and what is found has them.
use Rattle.std.proofs.Common.{◌≡◌, ℕ, ◌<◌, Bool, true, List, [], ◌∷◌, Option, Some, None, find, IfSome, refl, unwrap_or, rules}
use Rattle.std.proofs.lemmas.Bool.{cond_both, eqb-true, and_parts}
use Rattle.std.proofs.lemmas.Option.{IfSome_then}
use Rattle.std.specs.Prelude.{◌==◌, ◌&&◌}
use Rattle.rv32_decode.specs.declared.instruction.BranchOp.{BranchOp}
use Rattle.rv32_decode.specs.declared.instruction.BranchOp.TheVariants.{Beq, Bne, Blt, Bge, Bltu, Bgeu}
use Rattle.rv32_decode.specs.declared.instruction.LoadOp.{LoadOp}
use Rattle.rv32_decode.specs.declared.instruction.LoadOp.TheVariants.{Lb, Lh, Lw, Lbu, Lhu}
use Rattle.rv32_decode.specs.declared.instruction.SaveOp.{SaveOp}
use Rattle.rv32_decode.specs.declared.instruction.SaveOp.TheVariants.{Sb, Sh, Sw}
use Rattle.rv32_decode.specs.declared.instruction.ImmOp.{ImmOp}
use Rattle.rv32_decode.specs.declared.instruction.ImmOp.TheVariants.{Addi, Slti, Sltiu, Xori, Ori, Andi, Slli, Srli, Srai}
use Rattle.rv32_decode.specs.declared.instruction.RegOp.{RegOp}
use Rattle.rv32_decode.specs.declared.instruction.RegOp.TheVariants as reg
use Rattle.rv32_decode.specs.Instructions.{branch_funct3, load_funct3, save_funct3, imm_funct3, shift_funct7, reg_functs, branch_of, load_of, save_of, imm_of, reg_of, has_functs}

-- what a search finds passes its test
find_passes : {X : Type 0} (test : X → Bool) (xs : List X) → IfSome (find test xs) (λ x. test x ≡ true)
find_passes test [] = tt
find_passes test (x ∷ xs) =
    cond_both (test x) (Some x) (find test xs) (λ o. IfSome o (λ y. test y ≡ true)) (λ passes. passes) (λ _. find_passes test xs)

pub branch_again : (op : BranchOp) → branch_of (branch_funct3 op) ≡ Some op
unfolding branch_of
branch_again op = search rules

pub load_again : (op : LoadOp) → load_of (load_funct3 op) ≡ Some op
unfolding load_of
load_again op = search rules

pub save_again : (op : SaveOp) → save_of (save_funct3 op) ≡ Some op
unfolding save_of
save_again op = search rules

pub reg_again : (op : RegOp) → reg_of (reg_functs op).0 (reg_functs op).1 ≡ Some op
unfolding reg_of
reg_again op = search rules

-- the shifts fix funct7, and the other operations take any
pub imm_again : (op : ImmOp) (funct7 : ℕ) → imm_of (unwrap_or (shift_funct7 op) funct7) (imm_funct3 op) ≡ Some op
unfolding imm_of
imm_again op funct7 = search rules

pub branch_found : (funct3 : ℕ) → IfSome (branch_of funct3) (λ op. branch_funct3 op ≡ funct3)
unfolding branch_of
branch_found funct3 =
    IfSome_then
    (branch_of funct3)
    (find_passes (λ op. branch_funct3 op == funct3) (Beq ∷ Bne ∷ Blt ∷ Bge ∷ Bltu ∷ Bgeu ∷ []))
    (λ op. eqb-true (branch_funct3 op) funct3)

pub load_found : (funct3 : ℕ) → IfSome (load_of funct3) (λ op. load_funct3 op ≡ funct3)
unfolding load_of
load_found funct3 =
    IfSome_then
    (load_of funct3)
    (find_passes (λ op. load_funct3 op == funct3) (Lb ∷ Lh ∷ Lw ∷ Lbu ∷ Lhu ∷ []))
    (λ op. eqb-true (load_funct3 op) funct3)

pub save_found : (funct3 : ℕ) → IfSome (save_of funct3) (λ op. save_funct3 op ≡ funct3)
unfolding save_of
save_found funct3 =
    IfSome_then
    (save_of funct3)
    (find_passes (λ op. save_funct3 op == funct3) (Sb ∷ Sh ∷ Sw ∷ []))
    (λ op. eqb-true (save_funct3 op) funct3)

functs_same : (fixed : Option ℕ) (f3 funct7 funct3 : ℕ) → has_functs fixed f3 funct7 funct3 ≡ true
    → (f3 ≡ funct3) × (unwrap_or fixed funct7 ≡ funct7)
functs_same None f3 funct7 funct3 h = (eqb-true f3 funct3 h, refl)
functs_same (Some f7) f3 funct7 funct3 h =
    let both = and_parts (f3 == funct3) (f7 == funct7) h in (eqb-true f3 funct3 both.0, eqb-true f7 funct7 both.1)

pub imm_found : (funct7 funct3 : ℕ) → IfSome (imm_of funct7 funct3) (λ op. (imm_funct3 op ≡ funct3) × (unwrap_or (shift_funct7 op) funct7 ≡ funct7))
unfolding imm_of
imm_found funct7 funct3 =
    IfSome_then
    (imm_of funct7 funct3)
    (find_passes
    (λ op. has_functs (shift_funct7 op) (imm_funct3 op) funct7 funct3)
    (Addi ∷ Slti ∷ Sltiu ∷ Xori ∷ Ori ∷ Andi ∷ Slli ∷ Srli ∷ Srai ∷ []))
    (λ op. functs_same (shift_funct7 op) (imm_funct3 op) funct7 funct3)

pub reg_found : (funct7 funct3 : ℕ) → IfSome (reg_of funct7 funct3) (λ op. ((reg_functs op).0 ≡ funct7) × ((reg_functs op).1 ≡ funct3))
unfolding reg_of
reg_found funct7 funct3 =
    IfSome_then
    (reg_of funct7 funct3)
    (find_passes
    (λ op. ((reg_functs op).0 == funct7) && ((reg_functs op).1 == funct3))
    (reg.Add ∷ reg.Sub ∷ reg.Sll ∷ reg.Slt ∷ reg.Sltu ∷ reg.Xor ∷ reg.Srl ∷ reg.Sra ∷ reg.Or ∷ reg.And ∷ reg.Mul
    ∷ reg.Mulh ∷ reg.Mulhsu ∷ reg.Mulhu ∷ reg.Div ∷ reg.Divu ∷ reg.Rem ∷ reg.Remu ∷ []))
    (λ op h.
    let both = and_parts ((reg_functs op).0 == funct7) ((reg_functs op).1 == funct3) h in
    (eqb-true (reg_functs op).0 funct7 both.0, eqb-true (reg_functs op).1 funct3 both.1))

-- ---- They fit their fields

pub branch_below : (op : BranchOp) → branch_funct3 op < 8
branch_below op = search rules

pub load_below : (op : LoadOp) → load_funct3 op < 8
load_below op = search rules

pub save_below : (op : SaveOp) → save_funct3 op < 8
save_below op = search rules

pub imm_below : (op : ImmOp) → imm_funct3 op < 8
imm_below op = search rules

pub shift_below : (op : ImmOp) → unwrap_or (shift_funct7 op) 0 < 128
shift_below op = search rules

pub reg_below : (op : RegOp) → ((reg_functs op).0 < 128) × ((reg_functs op).1 < 8)
reg_below op = search rules
