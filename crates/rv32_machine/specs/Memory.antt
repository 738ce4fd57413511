-- Memory as the loaded byte at each address, or none; and what stores leave of it.
use Rattle.std.specs.Prelude.{◌≡◌, ℕ, ◌^◌, ◌<◌, ◌==◌, List, [], ◌∷◌, All, Option, Some, None, if◌then◌else◌, refl}
use Rattle.std.specs.Option.{option_map}
use Rattle.elf_image.specs.Image.{initial_byte}
use Rattle.elf_image.specs.declared.image.Segment.{Segment}

-- the byte at an address of a store, whose parts are those of an image
abbrev pub memory_of : List Segment → ℕ → Option ℕ
memory_of parts address = initial_byte parts address

-- memory holds bytes
pub record BytesFit (memory : ℕ → Option ℕ) : Type 0 where
  pub fits : (address byte : ℕ) → memory address ≡ Some byte → byte < 2 ^ 8

-- bytes are stored, each given with its address
abbrev pub StoresFit : List (ℕ × ℕ) → Type 0
StoresFit stored = All (λ one. one.1 < 2 ^ 8) stored

-- memory after one byte, given with its address, was stored; where nothing is loaded nothing changes
abbrev pub after_store : (ℕ → Option ℕ) → ℕ × ℕ → ℕ → Option ℕ
after_store memory stored address =
    if address == stored.0 then option_map (λ _. stored.1) (memory address) else memory address

-- memory after bytes were stored, in order
abbrev pub after_stores : (ℕ → Option ℕ) → List (ℕ × ℕ) → ℕ → Option ℕ
after_stores memory [] = memory
after_stores memory (stored ∷ others) = after_stores (after_store memory stored) others

-- ---- Worked cases

-- two parts, of two bytes at 16 and of one byte and a zero at 32
abbrev two_parts : List Segment
two_parts = record { address = 16; bytes = 1 ∷ 2 ∷ []; size = 2 } ∷ record { address = 32; bytes = 3 ∷ []; size = 2 } ∷ []

-- what stands at 33, what a store there leaves, and that a store past the end changes nothing
read_case : memory_of two_parts 33 ≡ Some 0
read_case = refl

store_case : after_stores (memory_of two_parts) ((33, 9) ∷ []) 33 ≡ Some 9
store_case = refl

past_case : after_stores (memory_of two_parts) ((18, 9) ∷ []) 18 ≡ None
past_case = refl
