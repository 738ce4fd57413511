-- What each instruction of RV32IM does, as in the RISC-V manual, volume I, chapters "RV32I Base
-- Integer Instruction Set" and "M Extension for Integer Multiplication and Division".
-- Words and addresses are numbers below 2 ^ 32, and bytes numbers below 2 ^ 8.
use Rattle.std.specs.Prelude.{◌≡◌, ℕ, ◌+◌, ◌-◌, ◌*◌, ◌/◌, ◌%◌, ◌^◌, ℤ, pos, negsuc, ◌*ℤ◌, Bool, not, ◌==◌, nat_lt, int_lt, int_div, int_rem, if◌then◌else◌, bit_and, bit_or, bit_xor, List, [], ◌∷◌, Option, Some, None, unwrap_or, slice_set, refl}
use Rattle.std.specs.Int.{w32, cast_signed, int_shr}
use Rattle.rv32_decode.specs.declared.instruction.Insn.{Insn}
use Rattle.rv32_decode.specs.declared.instruction.Insn.TheVariants.{Lui, Auipc, Jal, Jalr, Branch, Load, Save, Imm, Reg, Fence, Ecall, Ebreak}
use Rattle.rv32_decode.specs.declared.instruction.BranchOp.{BranchOp}
use Rattle.rv32_decode.specs.declared.instruction.BranchOp.TheVariants.{Beq, Bne, Blt, Bge, Bltu, Bgeu}
use Rattle.rv32_decode.specs.declared.instruction.LoadOp.{LoadOp}
use Rattle.rv32_decode.specs.declared.instruction.LoadOp.TheVariants.{Lb, Lh, Lw, Lbu, Lhu}
use Rattle.rv32_decode.specs.declared.instruction.SaveOp.{SaveOp}
use Rattle.rv32_decode.specs.declared.instruction.SaveOp.TheVariants.{Sb, Sh, Sw}
use Rattle.rv32_decode.specs.declared.instruction.ImmOp.{ImmOp}
use Rattle.rv32_decode.specs.declared.instruction.ImmOp.TheVariants.{Addi, Slti, Sltiu, Xori, Ori, Andi, Slli, Srli, Srai}
use Rattle.rv32_decode.specs.declared.instruction.RegOp.{RegOp}
use Rattle.rv32_decode.specs.declared.instruction.RegOp.TheVariants.{Add, Sub, Sll, Slt, Sltu, Xor, Srl, Sra, Or, And, Mul, Mulh, Mulhsu, Mulhu, Div, Divu, Rem, Remu}
use Rattle.rv32_decode.specs.Formats.{signed}
use Rattle.rv32_machine.specs.Registers.{value_of, with_value, zeros}

-- ---- Words and signed numbers

-- what is left of a signed number modulo m
abbrev pub residue : ℕ → ℤ → ℕ
residue m (pos n) = n % m
residue m (negsuc n) = m - 1 - n % m

-- the word of a signed number, and the signed number that a word holds in two's complement
abbrev pub word_of : ℤ → ℕ
word_of z = residue (2 ^ 32) z

abbrev pub signed_of : ℕ → ℤ
signed_of word = cast_signed w32 word

-- a word plus a signed number
abbrev pub moved : ℕ → ℤ → ℕ
moved word by = (word + word_of by) % 2 ^ 32

abbrev pub flag : Bool → ℕ
flag b = if b then 1 else 0

-- ---- Operations on words

abbrev pub reg_result : RegOp → ℕ → ℕ → ℕ
reg_result Add a b = (a + b) % 2 ^ 32
reg_result Sub a b = (a + (2 ^ 32 - b)) % 2 ^ 32
reg_result Sll a b = a * 2 ^ (b % 32) % 2 ^ 32
reg_result Slt a b = flag (int_lt (signed_of a) (signed_of b))
reg_result Sltu a b = flag (nat_lt a b)
reg_result Xor a b = bit_xor a b
reg_result Srl a b = a / 2 ^ (b % 32)
reg_result Sra a b = word_of (int_shr (signed_of a) (b % 32))
reg_result Or a b = bit_or a b
reg_result And a b = bit_and a b
reg_result Mul a b = a * b % 2 ^ 32
reg_result Mulh a b = residue (2 ^ 64) (signed_of a *ℤ signed_of b) / 2 ^ 32
reg_result Mulhsu a b = residue (2 ^ 64) (signed_of a *ℤ pos b) / 2 ^ 32
reg_result Mulhu a b = a * b / 2 ^ 32
reg_result Div a b = if b == 0 then 2 ^ 32 - 1 else word_of (int_div (signed_of a) (signed_of b))
reg_result Divu a b = if b == 0 then 2 ^ 32 - 1 else a / b
reg_result Rem a b = if b == 0 then a else word_of (int_rem (signed_of a) (signed_of b))
reg_result Remu a b = if b == 0 then a else a % b

-- an operation with an immediate is one on registers, with the immediate's word in place of the second
abbrev pub operation_of : ImmOp → RegOp
operation_of Addi = Add
operation_of Slti = Slt
operation_of Sltiu = Sltu
operation_of Xori = Xor
operation_of Ori = Or
operation_of Andi = And
operation_of Slli = Sll
operation_of Srli = Srl
operation_of Srai = Sra

abbrev pub imm_result : ImmOp → ℕ → ℤ → ℕ
imm_result op a imm = reg_result (operation_of op) a (word_of imm)

-- whether a branch is taken
abbrev pub is_taken : BranchOp → ℕ → ℕ → Bool
is_taken Beq a b = a == b
is_taken Bne a b = not (a == b)
is_taken Blt a b = int_lt (signed_of a) (signed_of b)
is_taken Bge a b = not (int_lt (signed_of a) (signed_of b))
is_taken Bltu a b = nat_lt a b
is_taken Bgeu a b = not (nat_lt a b)

-- ---- Memory: the loaded byte at each address, or none

-- byte i of a word, from the lowest on
abbrev pub byte_of : ℕ → ℕ → ℕ
byte_of word i = word / 2 ^ (8 * i) % 2 ^ 8

-- byte i of a load: the loaded byte, or where none is loaded the device's byte at the same place of
-- the load. Addresses wrap
abbrev pub loaded_byte : (ℕ → Option ℕ) → ℕ → ℕ → ℕ → ℕ
loaded_byte memory device address i = unwrap_or (memory ((address + i) % 2 ^ 32)) (byte_of device i)

-- the number of the first 1, 2 or 4 bytes, the lowest first
abbrev pub one_byte : (ℕ → ℕ) → ℕ
one_byte bytes = bytes 0

abbrev pub two_bytes : (ℕ → ℕ) → ℕ
two_bytes bytes = bytes 0 + bytes 1 * 2 ^ 8

abbrev pub four_bytes : (ℕ → ℕ) → ℕ
four_bytes bytes = bytes 0 + bytes 1 * 2 ^ 8 + bytes 2 * 2 ^ 16 + bytes 3 * 2 ^ 24

-- the word of the signed number whose two's complement in n bits is k
abbrev pub extended : ℕ → ℕ → ℕ
extended n k = word_of (signed n k)

abbrev pub load_result : LoadOp → (ℕ → ℕ) → ℕ
load_result Lb bytes = extended 8 (one_byte bytes)
load_result Lh bytes = extended 16 (two_bytes bytes)
load_result Lw bytes = four_bytes bytes
load_result Lbu bytes = one_byte bytes
load_result Lhu bytes = two_bytes bytes

-- the addresses and bytes that a store writes
abbrev pub written : ℕ → ℕ → ℕ → ℕ × ℕ
written address word i = ((address + i) % 2 ^ 32, byte_of word i)

abbrev pub saved : SaveOp → ℕ → ℕ → List (ℕ × ℕ)
saved Sb address word = written address word 0 ∷ []
saved Sh address word = written address word 0 ∷ written address word 1 ∷ []
saved Sw address word =
    written address word 0 ∷ written address word 1 ∷ written address word 2 ∷ written address word 3 ∷ []

-- ---- Instructions

-- the registers after an instruction, the bytes that it stores, each with its address, and the
-- address of the next instruction
pub record Effect : Type 0 where
  pub registers : List ℕ
  pub stored : List (ℕ × ℕ)
  pub next : ℕ

abbrev pub following : ℕ → ℕ
following address = (address + 4) % 2 ^ 32

-- a result in a register, and on to the following instruction
abbrev pub gives : List ℕ → ℕ → ℕ → ℕ → Effect
gives regs address rd value = record { registers = with_value regs rd value; stored = []; next = following address }

-- a jump with the following address in a register
abbrev pub links : List ℕ → ℕ → ℕ → ℕ → Effect
links regs address rd target = record { registers = with_value regs rd (following address); stored = []; next = target }

-- the target of `jalr`, which is even
abbrev pub jump_target : ℕ → ℤ → ℕ
jump_target base offset = let target = moved base offset in target - target % 2

-- whether the comparison of a branch holds
abbrev pub branch_holds : BranchOp → ℕ → ℕ → List ℕ → Bool
branch_holds op rs1 rs2 regs = is_taken op (value_of regs rs1) (value_of regs rs2)

-- the effect of an instruction at an address, with the registers, the memory and the device's four
-- bytes as one word; ECALL and EBREAK have none
abbrev pub executed : Insn → ℕ → List ℕ → (ℕ → Option ℕ) → ℕ → Option Effect
executed (Lui rd imm) address regs memory device = Some (gives regs address rd (word_of imm))
executed (Auipc rd imm) address regs memory device = Some (gives regs address rd (moved address imm))
executed (Jal rd offset) address regs memory device = Some (links regs address rd (moved address offset))
executed (Jalr rd rs1 offset) address regs memory device =
    Some (links regs address rd (jump_target (value_of regs rs1) offset))
executed (Branch op rs1 rs2 offset) address regs memory device =
    let next = if branch_holds op rs1 rs2 regs then moved address offset else following address in
    Some (record { registers = regs; stored = []; next = next })
executed (Load op rd rs1 offset) address regs memory device =
    let bytes = loaded_byte memory device (moved (value_of regs rs1) offset) in
    Some (gives regs address rd (load_result op bytes))
executed (Save op rs1 rs2 offset) address regs memory device =
    let bytes = saved op (moved (value_of regs rs1) offset) (value_of regs rs2) in
    Some (record { registers = regs; stored = bytes; next = following address })
executed (Imm op rd rs1 imm) address regs memory device =
    Some (gives regs address rd (imm_result op (value_of regs rs1) imm))
executed (Reg op rd rs1 rs2) address regs memory device =
    Some (gives regs address rd (reg_result op (value_of regs rs1) (value_of regs rs2)))
executed (Fence rd rs1 imm) address regs memory device =
    Some (record { registers = regs; stored = []; next = following address })
executed Ecall address regs memory device = None
executed Ebreak address regs memory device = None

-- ---- Worked cases

-- addi a7, zero, -1 at the last word of memory
pub addi_case
    : executed (Imm Addi 17 0 (negsuc 0)) 0xfffffffc zeros (λ _. None) 0
    ≡ Some (record { registers = slice_set zeros 17 0xffffffff; stored = []; next = 0 })
addi_case = refl

-- -2 ^ 31 divided by -1, and by 0
pub div_case : reg_result Div 0x80000000 0xffffffff ≡ 0x80000000
div_case = refl

pub div_zero_case : reg_result Div 7 0 ≡ 0xffffffff
div_zero_case = refl

pub rem_case : reg_result Rem 0x80000000 0xffffffff ≡ 0
rem_case = refl

-- -1 times -1 has the upper half 0, and -1 times 2 ^ 32 - 1 has -1
pub mulh_case : reg_result Mulh 0xffffffff 0xffffffff ≡ 0
mulh_case = refl

pub mulhsu_case : reg_result Mulhsu 0xffffffff 0xffffffff ≡ 0xffffffff
mulhsu_case = refl

-- lh of the bytes 0xfe 0xff is -2, and a shift of -8 to the right by 1 is -4
pub load_case : load_result Lh (byte_of 0xfffe) ≡ 0xfffffffe
load_case = refl

pub sra_case : reg_result Sra 0xfffffff8 33 ≡ 0xfffffffc
sra_case = refl
