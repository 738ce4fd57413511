-- The instruction table of RV32I and of the M extension, as in the RISC-V manual, volume I,
-- chapter "Instruction Set Listings": which word stands for which instruction.
use Rattle.std.specs.Prelude.{◌≡◌, ℕ, ◌+◌, ◌*◌, ◌^◌, ◌<◌, ℤ, pos, negsuc, ◌≤ℤ◌, ◌<ℤ◌, Bool, ◌==◌, ◌&&◌, if◌then◌else◌, [], ◌∷◌, find, Option, Some, None, refl}
use Rattle.std.specs.Option.{option_map}
use Rattle.rv32_decode.specs.declared.instruction.Insn.{Insn}
use Rattle.rv32_decode.specs.declared.instruction.Insn.TheVariants.{Lui, Auipc, Jal, Jalr, Branch, Load, Save, Imm, Reg, Fence, Ecall, Ebreak}
use Rattle.rv32_decode.specs.declared.instruction.BranchOp.{BranchOp}
use Rattle.rv32_decode.specs.declared.instruction.BranchOp.TheVariants.{Beq, Bne, Blt, Bge, Bltu, Bgeu}
use Rattle.rv32_decode.specs.declared.instruction.LoadOp.{LoadOp}
use Rattle.rv32_decode.specs.declared.instruction.LoadOp.TheVariants.{Lb, Lh, Lw, Lbu, Lhu}
use Rattle.rv32_decode.specs.declared.instruction.SaveOp.{SaveOp}
use Rattle.rv32_decode.specs.declared.instruction.SaveOp.TheVariants.{Sb, Sh, Sw}
use Rattle.rv32_decode.specs.declared.instruction.ImmOp.{ImmOp}
use Rattle.rv32_decode.specs.declared.instruction.ImmOp.TheVariants.{Addi, Slti, Sltiu, Xori, Ori, Andi, Slli, Srli, Srai}
use Rattle.rv32_decode.specs.declared.instruction.RegOp.{RegOp}
use Rattle.rv32_decode.specs.declared.instruction.RegOp.TheVariants as reg
use Rattle.rv32_decode.specs.declared.instruction.Class.{Class}
use Rattle.rv32_decode.specs.declared.instruction.Class.TheVariants as class
use Rattle.rv32_decode.specs.Formats.{bits_of, imm_bits, signed, IsSigned, r_type, i_type, s_type, b_type, u_type, j_type}

-- ---- The table

-- the major opcodes, by the manual's names
abbrev pub LOAD : ℕ
LOAD = 0x03

abbrev pub MISC_MEM : ℕ
MISC_MEM = 0x0f

abbrev pub OP_IMM : ℕ
OP_IMM = 0x13

abbrev pub AUIPC : ℕ
AUIPC = 0x17

abbrev pub STORE : ℕ
STORE = 0x23

abbrev pub OP : ℕ
OP = 0x33

abbrev pub LUI : ℕ
LUI = 0x37

abbrev pub BRANCH : ℕ
BRANCH = 0x63

abbrev pub JALR : ℕ
JALR = 0x67

abbrev pub JAL : ℕ
JAL = 0x6f

abbrev pub branch_funct3 : BranchOp → ℕ
branch_funct3 Beq = 0
branch_funct3 Bne = 1
branch_funct3 Blt = 4
branch_funct3 Bge = 5
branch_funct3 Bltu = 6
branch_funct3 Bgeu = 7

abbrev pub load_funct3 : LoadOp → ℕ
load_funct3 Lb = 0
load_funct3 Lh = 1
load_funct3 Lw = 2
load_funct3 Lbu = 4
load_funct3 Lhu = 5

abbrev pub save_funct3 : SaveOp → ℕ
save_funct3 Sb = 0
save_funct3 Sh = 1
save_funct3 Sw = 2

abbrev pub imm_funct3 : ImmOp → ℕ
imm_funct3 Addi = 0
imm_funct3 Slti = 2
imm_funct3 Sltiu = 3
imm_funct3 Xori = 4
imm_funct3 Ori = 6
imm_funct3 Andi = 7
imm_funct3 Slli = 1
imm_funct3 Srli = 5
imm_funct3 Srai = 5

-- the shifts by an immediate have a funct7 above their five bits
abbrev pub shift_funct7 : ImmOp → Option ℕ
shift_funct7 Slli = Some 0x00
shift_funct7 Srli = Some 0x00
shift_funct7 Srai = Some 0x20
shift_funct7 op = None

-- funct7 and funct3
abbrev pub reg_functs : RegOp → ℕ × ℕ
reg_functs reg.Add = (0x00, 0)
reg_functs reg.Sub = (0x20, 0)
reg_functs reg.Sll = (0x00, 1)
reg_functs reg.Slt = (0x00, 2)
reg_functs reg.Sltu = (0x00, 3)
reg_functs reg.Xor = (0x00, 4)
reg_functs reg.Srl = (0x00, 5)
reg_functs reg.Sra = (0x20, 5)
reg_functs reg.Or = (0x00, 6)
reg_functs reg.And = (0x00, 7)
reg_functs reg.Mul = (0x01, 0)
reg_functs reg.Mulh = (0x01, 1)
reg_functs reg.Mulhsu = (0x01, 2)
reg_functs reg.Mulhu = (0x01, 3)
reg_functs reg.Div = (0x01, 4)
reg_functs reg.Divu = (0x01, 5)
reg_functs reg.Rem = (0x01, 6)
reg_functs reg.Remu = (0x01, 7)

-- an immediate of 12 bits, or funct7 and a shift of five bits
abbrev pub imm_word : Option ℕ → ℕ → ℕ → ℕ → ℤ → ℕ
imm_word None funct3 rd rs1 imm = i_type imm rs1 funct3 rd OP_IMM
imm_word (Some funct7) funct3 rd rs1 shift = r_type funct7 (imm_bits 4 0 shift) rs1 funct3 rd OP_IMM

abbrev pub word_of_insn : Insn → ℕ
word_of_insn (Lui rd imm) = u_type imm rd LUI
word_of_insn (Auipc rd imm) = u_type imm rd AUIPC
word_of_insn (Jal rd offset) = j_type offset rd JAL
word_of_insn (Jalr rd rs1 offset) = i_type offset rs1 0 rd JALR
word_of_insn (Branch op rs1 rs2 offset) = b_type offset rs2 rs1 (branch_funct3 op) BRANCH
word_of_insn (Load op rd rs1 offset) = i_type offset rs1 (load_funct3 op) rd LOAD
word_of_insn (Save op rs1 rs2 offset) = s_type offset rs2 rs1 (save_funct3 op) STORE
word_of_insn (Imm op rd rs1 imm) = imm_word (shift_funct7 op) (imm_funct3 op) rd rs1 imm
word_of_insn (Reg op rd rs1 rs2) = r_type (reg_functs op).0 rs2 rs1 (reg_functs op).1 rd OP
word_of_insn (Fence rd rs1 imm) = i_type imm rs1 0 rd MISC_MEM
word_of_insn Ecall = 0x00000073
word_of_insn Ebreak = 0x00100073

-- ---- What fits

abbrev pub IsRegister : ℕ → Type 0
IsRegister number = number < 32

-- an immediate of 12 bits, or a shift from 0 to 31
abbrev pub ImmFits : Option ℕ → ℤ → Type 0
ImmFits None imm = IsSigned 12 imm
ImmFits (Some funct7) shift = (pos 0 ≤ℤ shift) × (shift <ℤ pos 32)

-- the immediate is in the range of its format: upper immediates have 12 low bits of 0, and the
-- offsets of branches and jumps are even
abbrev pub ImmediateFits : Insn → Type 0
ImmediateFits (Lui rd imm) = IsSigned 32 imm × (imm_bits 11 0 imm ≡ 0)
ImmediateFits (Auipc rd imm) = IsSigned 32 imm × (imm_bits 11 0 imm ≡ 0)
ImmediateFits (Jal rd offset) = IsSigned 21 offset × (imm_bits 0 0 offset ≡ 0)
ImmediateFits (Jalr rd rs1 offset) = IsSigned 12 offset
ImmediateFits (Branch op rs1 rs2 offset) = IsSigned 13 offset × (imm_bits 0 0 offset ≡ 0)
ImmediateFits (Load op rd rs1 offset) = IsSigned 12 offset
ImmediateFits (Save op rs1 rs2 offset) = IsSigned 12 offset
ImmediateFits (Imm op rd rs1 imm) = ImmFits (shift_funct7 op) imm
ImmediateFits (Reg op rd rs1 rs2) = Unit {0}
ImmediateFits (Fence rd rs1 imm) = IsSigned 12 imm
ImmediateFits Ecall = Unit {0}
ImmediateFits Ebreak = Unit {0}

abbrev pub RegistersFit : Insn → Type 0
RegistersFit (Lui rd imm) = IsRegister rd
RegistersFit (Auipc rd imm) = IsRegister rd
RegistersFit (Jal rd offset) = IsRegister rd
RegistersFit (Jalr rd rs1 offset) = IsRegister rd × IsRegister rs1
RegistersFit (Branch op rs1 rs2 offset) = IsRegister rs1 × IsRegister rs2
RegistersFit (Load op rd rs1 offset) = IsRegister rd × IsRegister rs1
RegistersFit (Save op rs1 rs2 offset) = IsRegister rs1 × IsRegister rs2
RegistersFit (Imm op rd rs1 imm) = IsRegister rd × IsRegister rs1
RegistersFit (Reg op rd rs1 rs2) = IsRegister rd × IsRegister rs1 × IsRegister rs2
RegistersFit (Fence rd rs1 imm) = IsRegister rd × IsRegister rs1
RegistersFit Ecall = Unit {0}
RegistersFit Ebreak = Unit {0}

pub record Fits (insn : Insn) : Type 0 where
  pub registers : RegistersFit insn
  pub immediate : ImmediateFits insn

-- the word stands for the instruction
pub record IsWordOf (word : ℕ) (insn : Insn) : Type 0 where
  pub fits : Fits insn
  pub spelled : word ≡ word_of_insn insn

-- ---- The classes

abbrev pub reg_class : RegOp → Class
reg_class reg.Mul = class.Mul
reg_class reg.Mulh = class.Mul
reg_class reg.Mulhsu = class.Mul
reg_class reg.Mulhu = class.Mul
reg_class reg.Div = class.Div
reg_class reg.Divu = class.Div
reg_class reg.Rem = class.Div
reg_class reg.Remu = class.Div
reg_class op = class.Alu

abbrev pub class_of : Insn → Class
class_of (Lui rd imm) = class.Alu
class_of (Auipc rd imm) = class.Alu
class_of (Jal rd offset) = class.Jump
class_of (Jalr rd rs1 offset) = class.Jump
class_of (Branch op rs1 rs2 offset) = class.Branch
class_of (Load op rd rs1 offset) = class.Load
class_of (Save op rs1 rs2 offset) = class.Store
class_of (Imm op rd rs1 imm) = class.Alu
class_of (Reg op rd rs1 rs2) = reg_class op
class_of (Fence rd rs1 imm) = class.Fence
class_of Ecall = class.System
class_of Ebreak = class.System

-- ---- The table read from the word: the one instruction of a word, where it has one

-- the fields of a word
abbrev pub rd_of : ℕ → ℕ
rd_of word = bits_of 11 7 word

abbrev pub rs1_of : ℕ → ℕ
rs1_of word = bits_of 19 15 word

abbrev pub rs2_of : ℕ → ℕ
rs2_of word = bits_of 24 20 word

abbrev pub funct3_of : ℕ → ℕ
funct3_of word = bits_of 14 12 word

abbrev pub funct7_of : ℕ → ℕ
funct7_of word = bits_of 31 25 word

-- the immediates of a word, by its format
abbrev pub i_imm : ℕ → ℤ
i_imm word = signed 12 (bits_of 31 20 word)

abbrev pub s_imm : ℕ → ℤ
s_imm word = signed 12 (bits_of 31 25 word * 2 ^ 5 + bits_of 11 7 word)

abbrev pub b_imm : ℕ → ℤ
b_imm word =
    signed 13 (bits_of 31 31 word * 2 ^ 12 + bits_of 7 7 word * 2 ^ 11 + bits_of 30 25 word * 2 ^ 5 + bits_of 11 8 word * 2)

abbrev pub u_imm : ℕ → ℤ
u_imm word = signed 32 (bits_of 31 12 word * 2 ^ 12)

abbrev pub j_imm : ℕ → ℤ
j_imm word =
    signed 21
    (bits_of 31 31 word * 2 ^ 20 + bits_of 19 12 word * 2 ^ 12 + bits_of 20 20 word * 2 ^ 11 + bits_of 30 21 word * 2)

-- the operation that has the given funct3, or funct7 and funct3
unfoldable pub branch_of : ℕ → Option BranchOp
branch_of funct3 = find (λ op. branch_funct3 op == funct3) (Beq ∷ Bne ∷ Blt ∷ Bge ∷ Bltu ∷ Bgeu ∷ [])

unfoldable pub load_of : ℕ → Option LoadOp
load_of funct3 = find (λ op. load_funct3 op == funct3) (Lb ∷ Lh ∷ Lw ∷ Lbu ∷ Lhu ∷ [])

unfoldable pub save_of : ℕ → Option SaveOp
save_of funct3 = find (λ op. save_funct3 op == funct3) (Sb ∷ Sh ∷ Sw ∷ [])

abbrev pub has_functs : Option ℕ → ℕ → ℕ → ℕ → Bool
has_functs None of3 funct7 funct3 = of3 == funct3
has_functs (Some of7) of3 funct7 funct3 = (of3 == funct3) && (of7 == funct7)

unfoldable pub imm_of : ℕ → ℕ → Option ImmOp
imm_of funct7 funct3 =
    find
    (λ op. has_functs (shift_funct7 op) (imm_funct3 op) funct7 funct3)
    (Addi ∷ Slti ∷ Sltiu ∷ Xori ∷ Ori ∷ Andi ∷ Slli ∷ Srli ∷ Srai ∷ [])

unfoldable pub reg_of : ℕ → ℕ → Option RegOp
reg_of funct7 funct3 =
    find
    (λ op. ((reg_functs op).0 == funct7) && ((reg_functs op).1 == funct3))
    (reg.Add ∷ reg.Sub ∷ reg.Sll ∷ reg.Slt ∷ reg.Sltu ∷ reg.Xor ∷ reg.Srl ∷ reg.Sra ∷ reg.Or ∷ reg.And ∷ reg.Mul
    ∷ reg.Mulh ∷ reg.Mulhsu ∷ reg.Mulhu ∷ reg.Div ∷ reg.Divu ∷ reg.Rem ∷ reg.Remu ∷ [])

-- the immediate of a word under OP_IMM: its shift where there is a funct7
abbrev pub imm_at : Option ℕ → ℕ → ℤ
imm_at None word = i_imm word
imm_at (Some funct7) word = pos (rs2_of word)

-- under JALR, under MISC_MEM, and the two whole words
abbrev pub jalr_of : ℕ → Option Insn
jalr_of word = if funct3_of word == 0 then Some (Jalr (rd_of word) (rs1_of word) (i_imm word)) else None

abbrev pub fence_of : ℕ → Option Insn
fence_of word = if funct3_of word == 0 then Some (Fence (rd_of word) (rs1_of word) (i_imm word)) else None

abbrev pub system_of : ℕ → Option Insn
system_of word = if word == 0x00000073 then Some Ecall else if word == 0x00100073 then Some Ebreak else None

-- the instruction of a word with the given opcode
unfoldable pub insn_under : ℕ → ℕ → Option Insn
insn_under opcode word =
    if opcode == LUI then Some (Lui (rd_of word) (u_imm word))
    else if opcode == AUIPC then Some (Auipc (rd_of word) (u_imm word))
    else if opcode == JAL then Some (Jal (rd_of word) (j_imm word))
    else if opcode == JALR then jalr_of word
    else if opcode == BRANCH then option_map (λ op. Branch op (rs1_of word) (rs2_of word) (b_imm word)) (branch_of (funct3_of word))
    else if opcode == LOAD then option_map (λ op. Load op (rd_of word) (rs1_of word) (i_imm word)) (load_of (funct3_of word))
    else if opcode == STORE then option_map (λ op. Save op (rs1_of word) (rs2_of word) (s_imm word)) (save_of (funct3_of word))
    else if opcode == OP_IMM then option_map (λ op. Imm op (rd_of word) (rs1_of word) (imm_at (shift_funct7 op) word)) (imm_of (funct7_of word) (funct3_of word))
    else if opcode == OP then option_map (λ op. Reg op (rd_of word) (rs1_of word) (rs2_of word)) (reg_of (funct7_of word) (funct3_of word))
    else if opcode == MISC_MEM then fence_of word
    else system_of word

unfoldable pub insn_of_word : ℕ → Option Insn
insn_of_word word = insn_under (bits_of 6 0 word) word

-- ---- Worked cases

-- divu a0, a1, a0
pub divu_case : word_of_insn (Reg reg.Divu 10 11 10) ≡ 0x02a5d533
divu_case = refl

-- sw ra, 2040(sp) and beq a0, a1, -4096
pub sw_case : word_of_insn (Save Sw 2 1 (pos 2040)) ≡ 0x7e112c23
sw_case = refl

pub beq_case : word_of_insn (Branch Beq 10 11 (negsuc 4095)) ≡ 0x80b50063
beq_case = refl

pub read_case : insn_of_word 0x02a5d533 ≡ Some (Reg reg.Divu 10 11 10)
unfolding insn_of_word insn_under reg_of
read_case = refl

pub none_case : insn_of_word 0 ≡ None
unfolding insn_of_word insn_under
none_case = refl
