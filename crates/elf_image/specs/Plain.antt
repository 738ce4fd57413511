-- The plain ELF file of some words of code and some symbols: one loaded segment, one code section, a
-- table of symbols and its names, and the image that it has.
use Rattle.std.specs.Prelude.{◌≡◌, ◌≢◌, ℕ, ◌+◌, ◌-◌, ◌*◌, ◌%◌, ◌^◌, ◌<◌, ◌≤◌, List, [], ◌∷◌, ◌++◌, length, replicate, flat_map, All}
use Rattle.byteorder.specs.Endian.{little_bytes}
use Rattle.elf_image.specs.Image.{ImageData}
use Rattle.elf_image.specs.declared.symbol.Symbol.{Symbol}
use Rattle.elf_image.specs.declared.symbol.Entry.{Entry}
use Rattle.elf_image.specs.declared.plain.Places.{Places}

-- ---- what a plain file is made of

-- a name that a plain file can hold: 1 to 64 bytes, none of them zero
pub record IsPlainName (name : List ℕ) : Type 0 where
  pub some : 0 < length name
  pub short : length name ≤ 64
  pub whole : All (λ byte. byte ≢ 0) name

-- words that fit below the end of the address range from the base on, and symbols
pub record IsPlain (base : ℕ) (words : List ℕ) (symbols : List Symbol) : Type 0 where
  pub aligned : base % 4 ≡ 0
  pub some : 0 < length words
  pub few : length words ≤ 1048576
  pub end : base + 4 * length words ≤ 2 ^ 32
  pub few_symbols : length symbols ≤ 64
  pub names : All (λ symbol. IsPlainName symbol.name) symbols

-- ---- its bytes

-- numbers of four bytes and of two bytes each, the lowest byte first
abbrev pub words_bytes : List ℕ → List ℕ
words_bytes words = flat_map (little_bytes 4) words

abbrev pub halves_bytes : List ℕ → List ℕ
halves_bytes halves = flat_map (little_bytes 2) halves

-- the places of the names and the values of the symbols, where the first name begins at the place
abbrev pub entries_from : ℕ → List Symbol → List Entry
entries_from place [] = []
entries_from place (symbol ∷ others) =
    record { place = place; value = symbol.value } ∷ entries_from (place + length symbol.name + 1) others

-- a global function (0x12) of section 1
abbrev pub symbol_bytes : Entry → List ℕ
symbol_bytes entry = words_bytes (entry.place ∷ entry.value ∷ 0 ∷ []) ++ 0x12 ∷ 0 ∷ halves_bytes (1 ∷ [])

-- the names, each with a zero byte behind it
abbrev pub names_bytes : List Symbol → List ℕ
names_bytes [] = []
names_bytes (symbol ∷ others) = symbol.name ++ 0 ∷ names_bytes others

-- a zero byte, and the names of the sections, `.text`, `.symtab` and `.strtab`, each with a zero byte behind it
abbrev pub section_names : List ℕ
section_names =
    0 ∷ 0x2e ∷ 0x74 ∷ 0x65 ∷ 0x78 ∷ 0x74 ∷ 0 ∷ 0x2e ∷ 0x73 ∷ 0x79 ∷ 0x6d ∷ 0x74 ∷ 0x61 ∷ 0x62 ∷ 0
    ∷ 0x2e ∷ 0x73 ∷ 0x74 ∷ 0x72 ∷ 0x74 ∷ 0x61 ∷ 0x62 ∷ 0 ∷ []

-- a zero byte, the names of the sections, and those of the symbols from place 23 on
unfoldable pub strings_of : List Symbol → List ℕ
strings_of symbols = section_names ++ names_bytes symbols

-- ---- its places

-- how many zero bytes lead from the place to the next multiple of four
abbrev pub padding : ℕ → ℕ
padding place = (4 - place % 4) % 4

unfoldable pub places_of : ℕ → List ℕ → List Symbol → Places
places_of base words symbols =
    let symbols_place = 84 + 4 * length words in
    let strings_place = symbols_place + 16 * (length symbols + 1) in
    let strings_end = strings_place + length (strings_of symbols) in
    record {
      base = base;
      text_size = 4 * length words;
      symbols = symbols_place;
      symbols_size = 16 * (length symbols + 1);
      strings = strings_place;
      strings_size = length (strings_of symbols);
      sections = strings_end + padding strings_end;
    }

-- ---- the whole file

abbrev pub file_header : Places → List ℕ
file_header places =
    0x7f ∷ 0x45 ∷ 0x4c ∷ 0x46 ∷ 1 ∷ 1 ∷ 1 ∷ 0 ∷ 0 ∷ 0 ∷ 0 ∷ 0 ∷ 0 ∷ 0 ∷ 0 ∷ 0 ∷ []
    ++ halves_bytes (2 ∷ 243 ∷ []) ++ words_bytes (1 ∷ places.base ∷ 52 ∷ places.sections ∷ 0 ∷ [])
    ++ halves_bytes (52 ∷ 32 ∷ 1 ∷ 40 ∷ 4 ∷ 3 ∷ [])

-- one segment, read and executed, of all the words
abbrev pub segment_header : Places → List ℕ
segment_header places =
    words_bytes (1 ∷ 84 ∷ places.base ∷ places.base ∷ places.text_size ∷ places.text_size ∷ 5 ∷ 4 ∷ [])

-- a symbol of zeros, and the symbols
abbrev pub symbols_bytes : List Symbol → List ℕ
symbols_bytes symbols = words_bytes (0 ∷ 0 ∷ 0 ∷ 0 ∷ []) ++ flat_map symbol_bytes (entries_from 23 symbols)

-- none, the words, the symbols and the strings
abbrev pub section_headers_bytes : Places → List ℕ
section_headers_bytes places =
    words_bytes (0 ∷ 0 ∷ 0 ∷ 0 ∷ 0 ∷ 0 ∷ 0 ∷ 0 ∷ 0 ∷ 0 ∷ [])
    ++ words_bytes (1 ∷ 1 ∷ 6 ∷ places.base ∷ 84 ∷ places.text_size ∷ 0 ∷ 0 ∷ 4 ∷ 0 ∷ [])
    ++ words_bytes (7 ∷ 2 ∷ 0 ∷ 0 ∷ places.symbols ∷ places.symbols_size ∷ 3 ∷ 1 ∷ 4 ∷ 16 ∷ [])
    ++ words_bytes (15 ∷ 3 ∷ 0 ∷ 0 ∷ places.strings ∷ places.strings_size ∷ 0 ∷ 0 ∷ 1 ∷ 0 ∷ [])

-- the parts, one after the other
unfoldable pub file_of : Places → List ℕ → List Symbol → List ℕ → List ℕ
file_of places words symbols strings =
    file_header places ++ segment_header places ++ words_bytes words ++ symbols_bytes symbols ++ strings
    ++ replicate (padding (places.strings + places.strings_size)) 0 ++ section_headers_bytes places

-- The plain file of the words, loaded from the base on, and of the symbols.
abbrev pub plain_file : ℕ → List ℕ → List Symbol → List ℕ
plain_file base words symbols = file_of (places_of base words symbols) words symbols (strings_of symbols)

-- The image of a plain file: all its words are code, loaded from the base on.
abbrev pub plain_image : ℕ → List ℕ → List Symbol → ImageData
plain_image base words symbols = record {
  code = record { address = base; size = 4 * length words } ∷ [];
  memory = record { address = base; bytes = words_bytes words; size = 4 * length words } ∷ [];
  symbols = symbols;
}
