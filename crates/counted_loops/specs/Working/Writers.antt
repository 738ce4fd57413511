-- Words that write a register.
use Rattle.std.specs.Prelude.{◌≡◌, ℕ, true, false, Option}
use Rattle.rv32_decode.specs.declared.instruction.Insn.{Insn}
use Rattle.counted_loops.specs.Words.{IsWordIn, IsPlainAt, writes_at}

abbrev pub NoneWrites : (ℕ → Option Insn) → ℕ → ℕ → ℕ → Type 0
NoneWrites code register from to = (address : ℕ) → IsWordIn from to address → writes_at code register address ≡ false

-- the first of the words that writes the register
pub record IsFirstWriter (code : ℕ → Option Insn) (register from to place : ℕ) : Type 0 where
  pub inside : IsWordIn from to place
  pub writes : writes_at code register place ≡ true
  pub before : NoneWrites code register from place

abbrev pub AllPlain : (ℕ → Option Insn) → ℕ → ℕ → Type 0
AllPlain code from to = (address : ℕ) → IsWordIn from to address → IsPlainAt code address
