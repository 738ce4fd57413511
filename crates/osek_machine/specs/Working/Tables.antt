-- Decoded code has one part for each section of an image.
use Rattle.std.specs.Prelude.{◌≡◌, ℕ, ◌+◌, ◌-◌, ◌*◌, ◌/◌, ◌<◌, List, [], ◌∷◌, length, Option, None, slice_index_or}
use Rattle.elf_image.specs.Image.{ImageData}
use Rattle.elf_image.specs.declared.image.Section.{Section}
use Rattle.rv32_decode.specs.declared.instruction.Insn.{Insn}
use Rattle.rv32_machine.specs.Code.{insn_at}
use Rattle.osek_machine.specs.declared.decoded.Part.{Part}

-- the section's first word, and the one behind its last
abbrev pub first_word : Section → ℕ
first_word section = (section.address + 3) / 4

abbrev pub end_word : Section → ℕ
end_word section = (section.address + section.size) / 4

-- the part has these decoded words from its first one on
pub record AreWordsFrom (image : ImageData) (first : ℕ) (insns : List (Option Insn)) : Type 0 where
  pub each : (k : ℕ) → k < length insns → slice_index_or insns k None ≡ insn_at image (4 * (first + k))

-- the part has the words of the section
pub record IsPartOf (image : ImageData) (section : Section) (part : Part) : Type 0 where
  pub first : part.first ≡ first_word section
  pub count : length part.insns.items ≡ end_word section - first_word section
  pub words : AreWordsFrom image part.first part.insns.items

-- there is one part for each section, in their order
abbrev pub ArePartsOf : ImageData → List Section → List Part → Type 0
ArePartsOf image [] [] = Unit {0}
ArePartsOf image (section ∷ sections) (part ∷ parts) = IsPartOf image section part × ArePartsOf image sections parts
ArePartsOf image sections parts = ⊥
