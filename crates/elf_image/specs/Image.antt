-- What an image is: where its code lies, what memory holds before the first step, and its symbols.
-- All addresses are byte addresses; a code word is four bytes at a multiple of four.
use Rattle.std.specs.Prelude.{◌≡◌, ℕ, ◌+◌, ◌-◌, ◌%◌, ◌^◌, ◌<◌, ◌≤◌, Bool, true, All, count_by, length, ◌&&◌, ◌==◌, not, nat_lt, nat_le, bytes_eq, List, [], ◌∷◌, slice_index, drop, take_while, Option, Some, None, unwrap_or, if◌then◌else◌}
use Rattle.std.specs.List.{list_any, range_with_len}
use Rattle.byteorder.specs.Endian.{little_number}
use Rattle.elf_image.specs.declared.image.Section.{Section}
use Rattle.elf_image.specs.declared.image.Segment.{Segment}
use Rattle.elf_image.specs.declared.symbol.Symbol.{Symbol}
use Rattle.elf_image.specs.declared.symbol.Entry.{Entry}

-- An image as contracts see it.
pub record ImageData : Type 0 where
  pub code : List Section
  pub memory : List Segment
  pub symbols : List Symbol

-- whether the segment loads a byte at the address
abbrev pub covers : Segment → ℕ → Bool
covers segment address = nat_le segment.address address && nat_lt address (segment.address + segment.size)

-- the byte that the segment loads there: the given one, and zero past the given ones
abbrev pub byte_in : Segment → ℕ → ℕ
byte_in segment address = slice_index segment.bytes (address - segment.address)

-- The byte that memory holds at first at the address; none where nothing is loaded.
abbrev pub initial_byte : List Segment → ℕ → Option ℕ
initial_byte [] address = None
initial_byte (segment ∷ others) address =
    if covers segment address then Some (byte_in segment address) else initial_byte others address

-- A segment holds bytes, not more of them than its size, and ends by the end of the address range.
pub record IsSegment (segment : Segment) : Type 0 where
  pub bytes : (k : ℕ) → slice_index segment.bytes k < 2 ^ 8
  pub few : length segment.bytes ≤ segment.size
  pub ends : segment.address + segment.size ≤ 2 ^ 32

-- whether all addresses of the section are loaded by the segment
abbrev pub lies_in : Section → Segment → Bool
lies_in section segment =
    nat_le segment.address section.address
    && nat_le (section.address + section.size) (segment.address + segment.size)

-- What holds of every image: no two segments load the same address, and each code section lies in one
-- segment.
pub record IsLawful (image : ImageData) : Type 0 where
  pub segments : All IsSegment image.memory
  pub apart : (address : ℕ) → count_by (λ segment. covers segment address) image.memory ≤ 1
  pub code : All (λ section. list_any (lies_in section) image.memory ≡ true) image.code

-- whether the four bytes from the address on lie in the section
abbrev pub holds_word : ℕ → Section → Bool
holds_word address section = nat_le section.address address && nat_le (address + 4) (section.address + section.size)

-- whether a code word stands at the address
abbrev pub has_word : List Section → ℕ → Bool
has_word code address = (address % 4 == 0) && list_any (holds_word address) code

-- the four bytes of memory from the address on, as one number, the lowest byte first
abbrev pub word_in : List Segment → ℕ → ℕ
word_in memory address =
    little_number 4
    (unwrap_or (initial_byte memory address) 0 ∷ unwrap_or (initial_byte memory (address + 1)) 0
    ∷ unwrap_or (initial_byte memory (address + 2)) 0 ∷ unwrap_or (initial_byte memory (address + 3)) 0 ∷ [])

-- The code word at the address: none where the address is no multiple of four, or its four bytes
-- don't lie in one code section.
abbrev pub word_at : ImageData → ℕ → Option ℕ
word_at image address = if has_word image.code address then Some (word_in image.memory address) else None

-- Whether the byte at the address is one of a code word.
abbrev pub is_code_byte : ImageData → ℕ → Bool
is_code_byte image address = has_word image.code (address - address % 4)

-- Whether one of so many bytes from the address on, wrapping, is one of a code word.
abbrev pub meets_code : ImageData → ℕ → ℕ → Bool
meets_code image address size = list_any (λ i. is_code_byte image ((address + i) % 2 ^ 32)) (range_with_len 0 size)

-- The value of the first symbol of that name.
abbrev pub value_of : List Symbol → List ℕ → Option ℕ
value_of [] name = None
value_of (symbol ∷ others) name = if bytes_eq symbol.name name then Some symbol.value else value_of others name

abbrev pub symbol_of : ImageData → List ℕ → Option ℕ
symbol_of image name = value_of image.symbols name

-- the name that begins at that place of a table of names, each of which ends before a zero byte
abbrev pub name_at : List ℕ → ℕ → List ℕ
name_at names place = take_while (λ byte. not (byte == 0)) (drop place names)

-- the symbol of an entry, whose name stands in the table of names
abbrev pub symbol_in : List ℕ → Entry → Symbol
symbol_in names entry = record { name = name_at names entry.place; value = entry.value }
