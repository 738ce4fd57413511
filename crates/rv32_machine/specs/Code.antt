-- Code: the decoded instruction at each address, or none.
use Rattle.std.specs.Prelude.{◌≡◌, ℕ, Option, Some, option_and_then}
use Rattle.elf_image.specs.Image.{ImageData, word_at}
use Rattle.rv32_decode.specs.declared.instruction.Insn.{Insn}
use Rattle.rv32_decode.specs.Instructions.{insn_of_word, RegistersFit}

-- The instruction of the code word at the address; none where no code word stands there, or one that
-- is no instruction.
unfoldable pub insn_at : ImageData → ℕ → Option Insn
insn_at image address = option_and_then insn_of_word (word_at image address)

-- the registers of all instructions are registers
pub record CodeFits (code : ℕ → Option Insn) : Type 0 where
  pub fits : (address : ℕ) (insn : Insn) → code address ≡ Some insn → RegistersFit insn
