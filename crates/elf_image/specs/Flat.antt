-- A flat image: the bytes are loaded at address 0, all of them are code, and `Task_T` stands at 0.
use Rattle.std.specs.Prelude.{◌≡◌, ℕ, ◌%◌, ◌==◌, List, [], ◌∷◌, length, Some, None, Result, Ok, Err, if◌then◌else◌, codes, refl}
use Rattle.elf_image.specs.Image.{ImageData, word_at, symbol_of}
use Rattle.elf_image.specs.declared.fault.ElfKind.{ElfKind}
use Rattle.elf_image.specs.declared.fault.ElfKind.TheVariants as kind

abbrev pub flat_image : List ℕ → ImageData
flat_image bytes = record {
  code = record { address = 0; size = length bytes } ∷ [];
  memory = record { address = 0; bytes = bytes; size = length bytes } ∷ [];
  symbols = record { name = codes "Task_T"; value = 0 } ∷ [];
}

-- The flat image of the bytes; Unaligned where their number is no multiple of four.
abbrev pub flat_of : List ℕ → Result ImageData ElfKind
flat_of bytes = if length bytes % 4 == 0 then Ok (flat_image bytes) else Err kind.Unaligned

-- `addi a0, zero, 2`, and an `ecall` behind it
abbrev eight_bytes : List ℕ
eight_bytes = 0x13 ∷ 0x05 ∷ 0x20 ∷ 0x00 ∷ 0x73 ∷ 0x00 ∷ 0x00 ∷ 0x00 ∷ []

-- two words, and none past the end or between two words
first_word : word_at (flat_image eight_bytes) 0 ≡ Some 0x00200513
first_word = refl

second_word : word_at (flat_image eight_bytes) 4 ≡ Some 0x73
second_word = refl

no_third_word : word_at (flat_image eight_bytes) 8 ≡ None
no_third_word = refl

no_word_between : word_at (flat_image eight_bytes) 2 ≡ None
no_word_between = refl

task_symbol : symbol_of (flat_image eight_bytes) (codes "Task_T") ≡ Some 0
task_symbol = refl

-- the task's name is longer than its first five letters
no_shorter_symbol : symbol_of (flat_image eight_bytes) (codes "Task_") ≡ None
no_shorter_symbol = refl

-- a byte less, and there is no image
unaligned : flat_of (0x13 ∷ 0x05 ∷ 0x20 ∷ []) ≡ Err kind.Unaligned
unaligned = refl
