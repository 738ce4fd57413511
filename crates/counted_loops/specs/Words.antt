-- The words of a loop, and what they do to registers. Code is the decoded instruction at each address, or none.
use Rattle.std.specs.Prelude.{◌≡◌, ℕ, ◌%◌, ◌<◌, ◌≤◌, ℤ, pos, negsuc, nat_eq, Bool, true, false, Option, Some, None, refl}
use Rattle.std.specs.Option.{option_map_or}
use Rattle.rv32_decode.specs.declared.instruction.Class.{Class}
use Rattle.rv32_decode.specs.declared.instruction.Class.TheVariants as classes
use Rattle.rv32_decode.specs.declared.instruction.Insn.{Insn}
use Rattle.rv32_decode.specs.declared.instruction.Insn.TheVariants.{Lui, Auipc, Jal, Jalr, Branch, Load, Save, Imm, Reg, Fence, Ecall, Ebreak}
use Rattle.rv32_decode.specs.declared.instruction.ImmOp.TheVariants.{Addi}
use Rattle.rv32_decode.specs.declared.instruction.SaveOp.TheVariants.{Sw}
use Rattle.rv32_decode.specs.Instructions.{class_of}

-- ---- Addresses

-- A word stands at the address, from the first one on and before the other one.
pub record IsWordIn (from to address : ℕ) : Type 0 where
  pub low : from ≤ address
  pub high : address < to
  pub aligned : address % 4 ≡ 0

-- ---- Instructions

-- the classes of instructions that just go on to the next word
abbrev pub is_plain : Class → Bool
is_plain classes.Alu = true
is_plain classes.Mul = true
is_plain classes.Div = true
is_plain classes.Load = true
is_plain classes.Store = true
is_plain classes.Fence = true
is_plain class = false

-- the word is decoded, and just goes on to the next word
pub record IsPlainAt (code : ℕ → Option Insn) (address : ℕ) : Type 0 where
  pub insn : Insn
  pub decoded : code address ≡ Some insn
  pub plain : is_plain (class_of insn) ≡ true

-- the register in an instruction's field for its result, where it has one; a FENCE has one too
abbrev pub destination : Insn → Option ℕ
destination (Lui rd imm) = Some rd
destination (Auipc rd imm) = Some rd
destination (Jal rd offset) = Some rd
destination (Jalr rd rs1 offset) = Some rd
destination (Branch op rs1 rs2 offset) = None
destination (Load op rd rs1 offset) = Some rd
destination (Save op rs1 rs2 offset) = None
destination (Imm op rd rs1 imm) = Some rd
destination (Reg op rd rs1 rs2) = Some rd
destination (Fence rd rs1 imm) = Some rd
destination Ecall = None
destination Ebreak = None

abbrev pub writes : ℕ → Insn → Bool
writes register insn = option_map_or (nat_eq register) (destination insn) false

-- whether the word at the address is an instruction with that register for its result
abbrev pub writes_at : (ℕ → Option Insn) → ℕ → ℕ → Bool
writes_at code register address = option_map_or (writes register) (code address) false

-- `addi register, zero, value` loads a constant
abbrev pub loads : ℕ → ℤ → Insn
loads register value = Imm Addi register 0 value

-- `addi register, register, step` counts
abbrev pub adds : ℕ → ℤ → Insn
adds register step = Imm Addi register register step

-- ---- Worked cases

-- a FENCE names its register, and a store none
fence_case : writes 5 (Fence 5 0 (pos 0)) ≡ true
fence_case = refl

store_case : writes 5 (Save Sw 5 5 (pos 0)) ≡ false
store_case = refl

count_case : destination (adds 6 (negsuc 0)) ≡ Some 6
count_case = refl
