-- What one call of the executor leaves, held against the effect of its instruction.
use Rattle.std.specs.Prelude.{◌≡◌, ℕ, ◌^◌, ◌<◌, List, [], ◌∷◌, length, Option, Some, None}
use Rattle.rv32_decode.specs.declared.instruction.Insn.{Insn}
use Rattle.rv32_decode.specs.declared.instruction.Insn.TheVariants.{Ecall, Ebreak}
use Rattle.elf_image.specs.declared.image.Segment.{Segment}
use Rattle.rv32_machine.specs.declared.next.Next.{Next}
use Rattle.rv32_machine.specs.declared.next.Span.{Span}
use Rattle.rv32_machine.specs.Registers.{AreRegisters}
use Rattle.rv32_machine.specs.Execution.{Effect}
use Rattle.rv32_machine.specs.Memory.{memory_of, after_stores, StoresFit}

-- neither ECALL nor EBREAK, which are for the environment
abbrev pub IsExecutable : Insn → Type 0
IsExecutable Ecall = ⊥
IsExecutable Ebreak = ⊥
IsExecutable insn = Unit {0}

-- an effect leaves registers, an address and bytes
pub record EffectFits (effect : Effect) : Type 0 where
  pub registers_fit : AreRegisters effect.registers
  pub next_fits : effect.next < 2 ^ 32
  pub stored_fit : StoresFit effect.stored

-- the addresses of a store: the first one and how many
abbrev pub span_of : List (ℕ × ℕ) → Option Span
span_of [] = None
span_of (first ∷ others) = Some (record { address = first.0; length = length (first ∷ others) })

-- The registers, the memory and the answer are those of the effect.
pub record HasDone (regs : List ℕ) (before after : List Segment) (answer : Next) (effect : Effect) : Type 0 where
  pub registers_are : regs ≡ effect.registers
  pub memory_is : memory_of after ≡ after_stores (memory_of before) effect.stored
  pub stored_is : answer.stored ≡ span_of effect.stored
  pub address_is : answer.address ≡ effect.next
