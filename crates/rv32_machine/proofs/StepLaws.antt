-- What the step of a context keeps, and what stands in registers after a write.
use Rattle.std.proofs.Common.{◌≡◌, ◌≢◌, ℕ, zero, suc, ◌+◌, ◌%◌, ◌^◌, ◌<◌, Bool, List, [], ◌∷◌, length, Option, Some, None, arith, refl, sym, ◌∙◌, ap, subst, ◌-◌, All, unwrap_or, lit<, inl, inr}
use Rattle.std.specs.Prelude.{option_and_then, IfSome}
use Rattle.std.proofs.lemmas.Bool.{cases_Bool, cond-true, cond-false}
use Rattle.std.specs.List.{list_any, range_with_len}
use Rattle.std.proofs.lemmas.List.{get_or-set_same, get_or-set_other}
use Rattle.std.proofs.lemmas.Option.{none-some, same_Some}
use Rattle.elf_image.specs.Image.{ImageData, IsSegment, IsLawful, covers, byte_in, initial_byte, has_word, word_in, word_at}
use Rattle.elf_image.specs.declared.image.Segment.{Segment}
use Rattle.rv32_decode.specs.declared.instruction.Insn.{Insn}
use Rattle.rv32_decode.specs.declared.instruction.SaveOp.{SaveOp}
use Rattle.rv32_decode.specs.declared.instruction.SaveOp.TheVariants.{Sb, Sh, Sw}
use Rattle.rv32_decode.specs.Instructions.{insn_of_word, IsWordOf, RegistersFit}
use Rattle.rv32_decode.proofs.TableLaws.{registers_fit, insn_found, insn_only}
use Rattle.rv32_machine.specs.Registers.{AreRegisters, value_of, with_value}
use Rattle.rv32_machine.specs.Execution.{saved}
use Rattle.rv32_machine.specs.Memory.{BytesFit}
use Rattle.rv32_machine.specs.Code.{CodeFits, insn_at}
use Rattle.rv32_machine.specs.Steps.{EffectFits}
use Rattle.rv32_machine.specs.ContextStep.{Standing, StandingFits, ContextStep}
use Rattle.rv32_machine.proofs.ExecutionLaws.{executed_keeps}
use Rattle.rv32_machine.proofs.MemoryLaws.{stores_fit}

-- ---- Code of an image

fits_through : (word : Option ℕ) (insn : Insn) → option_and_then insn_of_word word ≡ Some insn → RegistersFit insn
fits_through None insn e = absurd (none-some insn e)
fits_through (Some word) insn e = registers_fit word insn e

pub image_fits : (image : ImageData) → CodeFits (insn_at image)
unfolding insn_at
image_fits image = record { fits = λ address insn e. fits_through (word_at image address) insn e }

-- ---- A step keeps what fits

effect_fits : (code : ℕ → Option Insn) (device : ℕ) (memory memory' : ℕ → Option ℕ) (before after : Standing) → CodeFits code
    → AreRegisters before.registers → BytesFit memory → (step : ContextStep code device memory memory' before after) → EffectFits step.effect
effect_fits code device memory memory' before after fits are bytes step =
    executed_keeps step.insn before.place before.registers memory device step.effect (fits.fits before.place step.insn step.fetched) are bytes step.does

-- registers stay registers, and the next place is an address
pub step_keeps : (code : ℕ → Option Insn) (device : ℕ) (memory memory' : ℕ → Option ℕ) (before after : Standing) → CodeFits code
    → AreRegisters before.registers → BytesFit memory → ContextStep code device memory memory' before after → StandingFits after
step_keeps code device memory memory' before after fits are bytes step =
    let effect = effect_fits code device memory memory' before after fits are bytes step in
    record {
      registers_fit = subst AreRegisters (sym step.registers_are) effect.registers_fit;
      place_fits = subst (λ (n : ℕ). n < 2 ^ 32) (sym step.place_is) effect.next_fits;
    }

-- memory goes on to hold bytes
pub step_keeps_bytes : (code : ℕ → Option Insn) (device : ℕ) (memory memory' : ℕ → Option ℕ) (before after : Standing) → CodeFits code
    → AreRegisters before.registers → BytesFit memory → ContextStep code device memory memory' before after → BytesFit memory'
step_keeps_bytes code device memory memory' before after fits are bytes step =
    let effect = effect_fits code device memory memory' before after fits are bytes step in
    subst BytesFit (sym step.memory_is) (stores_fit memory step.effect.stored bytes effect.stored_fit)

-- ---- Registers after a write

-- what was written stands in the register, except in x0
pub value_written : (registers : List ℕ) (rd value : ℕ) → 0 < rd → rd < length registers → value_of (with_value registers rd value) rd ≡ value
value_written registers zero value some within = absurd (omega arith)
value_written registers (suc n) value some within = get_or-set_same registers (suc n) value 0 within

-- every other register keeps its value
pub value_kept : (registers : List ℕ) (rd value other : ℕ) → other ≢ rd → value_of (with_value registers rd value) other ≡ value_of registers other
value_kept registers zero value other apart = refl
value_kept registers (suc n) value other apart = get_or-set_other registers (suc n) other value 0 apart

-- ---- The addresses of a store

-- a test passes at one of the addresses of a store exactly where it passes at one of its span
pub saved_any : (test : ℕ → Bool) (op : SaveOp) (address word : ℕ)
    → list_any (λ one. test one.0) (saved op address word) ≡ list_any (λ i. test ((address + i) % 2 ^ 32)) (range_with_len 0 (length (saved op address word)))
saved_any test Sb address word = refl
saved_any test Sh address word = refl
saved_any test Sw address word = refl

-- ---- The word of an instruction

pub initial_fits : (segments : List Segment) → All IsSegment segments → (address byte : ℕ) → initial_byte segments address ≡ Some byte → byte < 2 ^ 8
initial_fits [] lawful address byte found = absurd (none-some byte found)
initial_fits (one ∷ others) lawful address byte found =
    elim (cases_Bool (covers one address)) as (λ _. byte < 2 ^ 8) [
      | inl here ↦
          let is : byte_in one address ≡ byte =
          same_Some (byte_in one address) byte (sym (cond-true (covers one address) (Some (byte_in one address)) (initial_byte others address) here) ∙ found) in
          subst (λ (n : ℕ). n < 2 ^ 8) is ((lawful 0 one (omega arith)).bytes (address - one.address))
      | inr away ↦
          initial_fits others (λ k d below. lawful (suc k) d (omega arith)) address byte
          (sym (cond-false (covers one address) (Some (byte_in one address)) (initial_byte others address) away) ∙ found)
    ]

or_zero : (found : Option ℕ) → ((byte : ℕ) → found ≡ Some byte → byte < 2 ^ 8) → unwrap_or found 0 < 2 ^ 8
or_zero None fits = lit< tt
or_zero (Some byte) fits = fits byte refl

word_in_fits : (segments : List Segment) (address : ℕ) → All IsSegment segments → word_in segments address < 2 ^ 32
word_in_fits segments address lawful =
    let byte = λ (a : ℕ). or_zero (initial_byte segments a) (initial_fits segments lawful a) in
    omega (arith, byte address, byte (address + 1), byte (address + 2), byte (address + 3))

-- a code word of an image is a word
pub word_fits : (image : ImageData) (address word : ℕ) → IsLawful image → word_at image address ≡ Some word → word < 2 ^ 32
word_fits image address word lawful found =
    elim (cases_Bool (has_word image.code address)) as (λ _. word < 2 ^ 32) [
      | inl here ↦
          let is : word_in image.memory address ≡ word =
          same_Some (word_in image.memory address) word (sym (cond-true (has_word image.code address) (Some (word_in image.memory address)) None here) ∙ found) in
          subst (λ (n : ℕ). n < 2 ^ 32) is (word_in_fits image.memory address lawful.segments)
      | inr away ↦
          absurd (none-some word (sym (cond-false (has_word image.code address) (Some (word_in image.memory address)) None away) ∙ found))
    ]

-- the instruction at an address is that of the code word there, both ways
pub record IsCodeAt (image : ImageData) (address : ℕ) (insn : Insn) : Type 0 where
  pub word : ℕ
  pub fetched : word_at image address ≡ Some word
  pub decoded : IsWordOf word insn

through : (found : Option ℕ) (insn : Insn) → option_and_then insn_of_word found ≡ Some insn → (word : ℕ) × (found ≡ Some word) × (insn_of_word word ≡ Some insn)
through None insn e = absurd (none-some insn e)
through (Some word) insn e = (word, refl, e)

at_some : (found : Option Insn) (word : ℕ) (insn : Insn) → IfSome found (IsWordOf word) → found ≡ Some insn → IsWordOf word insn
at_some found word insn decoded e = subst (λ (o : Option Insn). IfSome o (IsWordOf word)) e decoded

pub insn_is_code : (image : ImageData) (address : ℕ) (insn : Insn) → IsLawful image → insn_at image address ≡ Some insn → IsCodeAt image address insn
unfolding insn_at
insn_is_code image address insn lawful e =
    let parts = through (word_at image address) insn e in
    record {
      word = parts.0;
      fetched = parts.1;
      decoded = at_some (insn_of_word parts.0) parts.0 insn (insn_found parts.0 (word_fits image address parts.0 lawful parts.1)) parts.2;
    }

pub code_is_insn : (image : ImageData) (address : ℕ) (insn : Insn) → IsCodeAt image address insn → insn_at image address ≡ Some insn
unfolding insn_at
code_is_insn image address insn code = ap (option_and_then insn_of_word) code.fetched ∙ insn_only code.word insn code.decoded
