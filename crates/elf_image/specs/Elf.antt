-- Which image the bytes of an ELF file have, and which fault they have where they have none.
-- The format is that of the System V ABI for 32-bit objects, least significant byte first, of machine
-- 243, RISC-V. What is said is said of the bytes at places of the file.
use Rattle.std.specs.Prelude.{◌≡◌, ℕ, ◌+◌, ◌*◌, ◌/◌, ◌%◌, ◌^◌, min, max, Bool, true, false, ◌&&◌, ◌||◌, ◌==◌, not, nat_lt, nat_le, is_none, slice_index, List, [], ◌∷◌, length, take, drop, map, filter, find, sum_by, Option, Some, None, Result, Ok, Err, if◌then◌else◌, replicate, refl}
use Rattle.std.specs.List.{list_any, list_all, range_with_len}
use Rattle.byteorder.specs.Endian.{little_number}
use Rattle.elf_image.specs.Image.{ImageData, symbol_in}
use Rattle.elf_image.specs.declared.image.Section.{Section}
use Rattle.elf_image.specs.declared.image.Segment.{Segment}
use Rattle.elf_image.specs.declared.symbol.Symbol.{Symbol}
use Rattle.elf_image.specs.declared.symbol.Entry.{Entry}
use Rattle.elf_image.specs.declared.headers.ProgramHeader.{ProgramHeader}
use Rattle.elf_image.specs.declared.headers.SectionHeader.{SectionHeader}
use Rattle.elf_image.specs.declared.headers.SymbolHeader.{SymbolHeader}
use Rattle.elf_image.specs.declared.fault.ElfKind.{ElfKind}
use Rattle.elf_image.specs.declared.fault.ElfKind.TheVariants as kind

-- ---- fields

-- the number in the two or the four bytes from a place on, the lowest byte first
unfoldable pub field2 : List ℕ → ℕ → ℕ
field2 bytes place = little_number 2 (drop place bytes)

unfoldable pub field4 : List ℕ → ℕ → ℕ
field4 bytes place = little_number 4 (drop place bytes)

unfoldable pub program_header : List ℕ → ℕ → ProgramHeader
program_header bytes place = record {
  kind = field4 bytes place;
  offset = field4 bytes (place + 4);
  address = field4 bytes (place + 8);
  filled = field4 bytes (place + 16);
  size = field4 bytes (place + 20);
}

unfoldable pub section_header : List ℕ → ℕ → SectionHeader
section_header bytes place = record {
  kind = field4 bytes (place + 4);
  flags = field4 bytes (place + 8);
  address = field4 bytes (place + 12);
  offset = field4 bytes (place + 16);
  size = field4 bytes (place + 20);
  link = field4 bytes (place + 24);
  entry_size = field4 bytes (place + 36);
}

unfoldable pub symbol_header : List ℕ → ℕ → SymbolHeader
symbol_header bytes place = record {
  name = field4 bytes place;
  value = field4 bytes (place + 4);
  section = field2 bytes (place + 14);
}

-- ---- the header tables

-- the n headers of so many bytes each that stand from the place on
unfoldable pub headers_from : {H : Type 0} → (ℕ → H) → ℕ → ℕ → ℕ → List H
headers_from header place size n = map (λ i. header (place + size * i)) (range_with_len 0 n)

abbrev pub program_table_of : List ℕ → ℕ
program_table_of bytes = field4 bytes 28

abbrev pub section_table_of : List ℕ → ℕ
section_table_of bytes = field4 bytes 32

abbrev pub program_count_of : List ℕ → ℕ
program_count_of bytes = field2 bytes 44

abbrev pub section_count_of : List ℕ → ℕ
section_count_of bytes = field2 bytes 48

abbrev pub program_headers : List ℕ → List ProgramHeader
program_headers bytes = headers_from (program_header bytes) (program_table_of bytes) 32 (program_count_of bytes)

abbrev pub section_headers : List ℕ → List SectionHeader
section_headers bytes = headers_from (section_header bytes) (section_table_of bytes) 40 (section_count_of bytes)

-- a loaded segment
abbrev pub is_loaded : ProgramHeader → Bool
is_loaded header = header.kind == 1

-- A code section: of the flags write (1), allocate (2) and execute (4) it has the last two alone, and
-- it isn't empty.
abbrev pub is_code : SectionHeader → Bool
is_code header = (header.flags % 8 == 6) && nat_lt 0 header.size

-- a table of symbols
abbrev pub is_symbol_table : SectionHeader → Bool
is_symbol_table header = header.kind == 2

-- a symbol that isn't only referred to
abbrev pub is_defined : SymbolHeader → Bool
is_defined header = not (header.section == 0)

unfoldable pub loaded_of : List ℕ → List ProgramHeader
loaded_of bytes = filter is_loaded (program_headers bytes)

unfoldable pub code_of : List ℕ → List SectionHeader
code_of bytes = filter is_code (section_headers bytes)

unfoldable pub symbol_table_of : List ℕ → Option SectionHeader
symbol_table_of bytes = find is_symbol_table (section_headers bytes)

-- ---- symbols and their names

-- the section that holds the names of the table's symbols
unfoldable pub names_header_of : List ℕ → SectionHeader → SectionHeader
names_header_of bytes table = section_header bytes (section_table_of bytes + 40 * table.link)

-- the bytes of a section in the file
abbrev pub content_of : List ℕ → SectionHeader → List ℕ
content_of bytes header = take header.size (drop header.offset bytes)

unfoldable pub names_of : List ℕ → SectionHeader → List ℕ
names_of bytes table = content_of bytes (names_header_of bytes table)

abbrev pub entry_of : SymbolHeader → Entry
entry_of header = record { place = header.name; value = header.value }

-- the places of the names and the values of the defined symbols
unfoldable pub entries_of : List ℕ → SectionHeader → List Entry
entries_of bytes table =
    map entry_of (filter is_defined (headers_from (symbol_header bytes) table.offset 16 (table.size / 16)))

-- whether the name at the place ends before the table of names does
abbrev pub has_end : List ℕ → ℕ → Bool
has_end names place = list_any (λ byte. byte == 0) (drop place names)

-- ---- what lies in range

-- whether so many bytes from the offset on lie in the file
abbrev pub lies_in_file : List ℕ → ℕ → ℕ → Bool
lies_in_file bytes offset size = nat_le (offset + size) (length bytes)

-- both header tables have headers of the right size and lie in the file
unfoldable pub tables_fit : List ℕ → Bool
tables_fit bytes =
    ((program_count_of bytes == 0) || (field2 bytes 42 == 32))
    && ((section_count_of bytes == 0) || (field2 bytes 46 == 40))
    && lies_in_file bytes (program_table_of bytes) (32 * program_count_of bytes)
    && lies_in_file bytes (section_table_of bytes) (40 * section_count_of bytes)

-- a segment is filled from the file, not beyond its size, and ends by the end of the address range
abbrev pub segment_fits : List ℕ → ProgramHeader → Bool
segment_fits bytes header =
    lies_in_file bytes header.offset header.filled && nat_le header.filled header.size
    && nat_le (header.address + header.size) (2 ^ 32)

-- whether the section's addresses are all loaded by the segment
abbrev pub is_within : SectionHeader → ProgramHeader → Bool
is_within section segment =
    nat_le segment.address section.address
    && nat_le (section.address + section.size) (segment.address + segment.size)

-- a code section lies in one loaded segment, and so in the address range
abbrev pub code_fits : List ProgramHeader → SectionHeader → Bool
code_fits loaded section = list_any (is_within section) loaded

-- the table lies in the file with whole symbols, and the section of their names is there
unfoldable pub symbol_table_fits : List ℕ → SectionHeader → Bool
symbol_table_fits bytes table =
    (table.entry_size == 16) && (table.size % 16 == 0) && lies_in_file bytes table.offset table.size
    && nat_lt table.link (section_count_of bytes)
    && lies_in_file bytes (names_header_of bytes table).offset (names_header_of bytes table).size

-- besides, each symbol's name has an end
unfoldable pub symbols_fit : List ℕ → Option SectionHeader → Bool
symbols_fit bytes None = true
symbols_fit bytes (Some table) =
    symbol_table_fits bytes table && list_all (λ entry. has_end (names_of bytes table) entry.place) (entries_of bytes table)

-- everything but the symbols
unfoldable pub parts_fit : List ℕ → Bool
parts_fit bytes =
    tables_fit bytes && list_all (segment_fits bytes) (loaded_of bytes)
    && list_all (code_fits (loaded_of bytes)) (code_of bytes)

-- ---- faults

-- whether an address is loaded by both segments
abbrev pub shares : ProgramHeader → ProgramHeader → Bool
shares a b = nat_lt (max a.address b.address) (min (a.address + a.size) (b.address + b.size))

-- whether two of the segments share an address
abbrev pub overlaps : List ProgramHeader → Bool
overlaps [] = false
overlaps (segment ∷ others) = list_any (shares segment) others || overlaps others

abbrev pub loaded_size : List ProgramHeader → ℕ
loaded_size loaded = sum_by (λ header. header.size) loaded

-- the bytes at the front of every ELF file, 7f and then E, L, F
abbrev pub has_magic : List ℕ → Bool
has_magic bytes =
    (slice_index bytes 0 == 0x7f) && (slice_index bytes 1 == 0x45) && (slice_index bytes 2 == 0x4c) && (slice_index bytes 3 == 0x46)

-- 32 bits, lowest byte first, version 1
abbrev pub has_class : List ℕ → Bool
has_class bytes = (slice_index bytes 4 == 1) && (slice_index bytes 5 == 1) && (slice_index bytes 6 == 1)

-- the faults of the header at the front of the file, in the order in which they are judged
unfoldable pub header_fault_of : List ℕ → Option ElfKind
header_fault_of bytes =
    if nat_lt (length bytes) 52 then Some kind.Short
    else if not (has_magic bytes) then Some kind.Magic
    else if not (has_class bytes) then Some kind.Class
    else if not (field2 bytes 18 == 243) then Some kind.Machine
    else if not (field2 bytes 16 == 2) then Some kind.Kind
    else if field4 bytes 36 % 2 == 1 then Some kind.Compressed
    else None

-- the last faults, of segments and sections that lie in range
unfoldable pub late_fault_of : List ProgramHeader → List SectionHeader → Option ElfKind
late_fault_of loaded code =
    if overlaps loaded then Some kind.Overlap
    else if length code == 0 then Some kind.NoCode
    else if nat_lt 67108864 (loaded_size loaded) then Some kind.Large
    else None

-- The faults of what the header leads to, in the same order; none of these is judged where the
-- header has a fault.
unfoldable pub body_fault_of : List ℕ → Option ElfKind
body_fault_of bytes =
    if not (parts_fit bytes && symbols_fit bytes (symbol_table_of bytes)) then Some kind.Range
    else if is_none (symbol_table_of bytes) then Some kind.NoSymbols
    else late_fault_of (loaded_of bytes) (code_of bytes)

abbrev pub first_fault : Option ElfKind → Option ElfKind → Option ElfKind
first_fault (Some first) later = Some first
first_fault None later = later

-- The fault that the bytes have: the first in the order of the kinds.
abbrev pub elf_fault_of : List ℕ → Option ElfKind
elf_fault_of bytes = first_fault (header_fault_of bytes) (body_fault_of bytes)

-- ---- the image

abbrev pub section_of : SectionHeader → Section
section_of header = record { address = header.address; size = header.size }

-- The segment's bytes of the file, and zeros from there up to its size.
abbrev pub segment_of : List ℕ → ProgramHeader → Segment
segment_of bytes header = record {
  address = header.address;
  bytes = take header.filled (drop header.offset bytes);
  size = header.size;
}

abbrev pub symbols_of : List ℕ → Option SectionHeader → List Symbol
symbols_of bytes None = []
symbols_of bytes (Some table) = map (symbol_in (names_of bytes table)) (entries_of bytes table)

unfoldable pub image_of : List ℕ → ImageData
image_of bytes = record {
  code = map section_of (code_of bytes);
  memory = map (segment_of bytes) (loaded_of bytes);
  symbols = symbols_of bytes (symbol_table_of bytes);
}

abbrev pub judged : Option ElfKind → ImageData → Result ImageData ElfKind
judged None image = Ok image
judged (Some fault) image = Err fault

-- The image of the bytes, or their fault.
abbrev pub elf_of : List ℕ → Result ImageData ElfKind
elf_of bytes = judged (elf_fault_of bytes) (image_of bytes)

-- The bytes have the image.
abbrev pub IsImageOf : List ℕ → ImageData → Type 0
IsImageOf bytes image = elf_of bytes ≡ Ok image

-- ---- worked cases

-- no bytes are too few, and zeros are no ELF file
short : elf_fault_of [] ≡ Some kind.Short
unfolding header_fault_of
short = refl

no_elf : elf_fault_of (replicate 60 0) ≡ Some kind.Magic
unfolding header_fault_of
no_elf = refl

at_address : ℕ → ℕ → ProgramHeader
at_address address size = record { kind = 1; offset = 0; address = address; filled = 0; size = size }

-- segments may touch, an empty one lies anywhere, and one address is enough to overlap
touch : overlaps (at_address 0x100 0x10 ∷ at_address 0x110 4 ∷ at_address 0x104 0 ∷ []) ≡ false
unfolding at_address
touch = refl

share_one : overlaps (at_address 0x110 4 ∷ at_address 0x100 0x11 ∷ []) ≡ true
unfolding at_address
share_one = refl

-- flags 6 are those of code; writable code is none, and neither is an empty section
with_flags : ℕ → ℕ → SectionHeader
with_flags flags size = record { kind = 1; flags = flags; address = 0; offset = 0; size = size; link = 0; entry_size = 0 }

code_flags : is_code (with_flags 0x16 4) ≡ true
unfolding with_flags
code_flags = refl

writable : is_code (with_flags 7 4) ≡ false
unfolding with_flags
writable = refl

empty : is_code (with_flags 6 0) ≡ false
unfolding with_flags
empty = refl
