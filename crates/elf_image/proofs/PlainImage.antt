-- The image of a plain file.
use Rattle.std.proofs.Common.{◌≡◌, ℕ, suc, ◌+◌, ◌*◌, ◌/◌, ◌%◌, ◌^◌, ◌<◌, ◌≤◌, true, false, ◌&&◌, ◌≢◌, ◌==◌, nat_lt, cond, find, Some, None, Ok, List, [], ◌∷◌, ◌++◌, length, get_or, take, drop, map, flat_map, filter, replicate, All, refl, sym, ◌∙◌, ap, append_assoc, arith}
use Rattle.std.proofs.lemmas.List.{length-append, length-replicate}
use Rattle.std.proofs.lemmas.List.Elements.{All-head, All-tail, recursion_from_All}
use Rattle.elf_image.specs.Plain.{IsPlain, IsPlainName, places_of, strings_of, section_names, names_bytes, words_bytes, symbol_bytes, plain_image, plain_file}
use Rattle.elf_image.specs.declared.symbol.Symbol.{Symbol}
use Rattle.byteorder.specs.Endian.{little_number, little_bytes}
use Rattle.std.proofs.lemmas.Bool.{le-ltb, lt-ltb, le-leb, eq-eqb}
use Rattle.std.specs.List.{list_all, AllByRecursion}
use Rattle.elf_image.specs.Elf.{tables_fit, segment_fits, code_fits, late_fault_of, symbol_table_fits, symbols_fit, parts_fit, program_count_of, program_table_of, field2, field4, program_header, section_header, headers_from, header_fault_of, section_table_of, section_count_of, section_headers, loaded_of, code_of, symbol_table_of, names_header_of, names_of, entries_of, is_code, is_symbol_table, is_defined, entry_of, symbol_header, elf_of, IsImageOf, judged, first_fault, body_fault_of, image_of}
use Rattle.elf_image.specs.Plain.{file_header, segment_header, section_headers_bytes, symbols_bytes, file_of, padding, entries_from}
use Rattle.elf_image.specs.declared.plain.Places.{Places}
use Rattle.elf_image.specs.declared.headers.ProgramHeader.{ProgramHeader}
use Rattle.elf_image.specs.declared.headers.SectionHeader.{SectionHeader}
use Rattle.elf_image.proofs.Fields.{number4, section_header-after, part-after}
use Rattle.elf_image.proofs.PlainSymbols.{table_read, names_read, names_end, length-entries_from, entries_fit, symbols_bytes_size, FitsEntry}
use Rattle.elf_image.proofs.Verdict.{parts_from, symbols_from, judged_image}
use Rattle.elf_image.specs.Image.{ImageData, symbol_in}

-- ---- sizes

names_size : (symbols : List Symbol) → All (λ symbol. IsPlainName symbol.name) symbols → length (names_bytes symbols) ≤ 65 * length symbols
names_size [] plain = omega arith
names_size (s ∷ symbols) plain =
    let rest = names_size symbols (All-tail (λ symbol. IsPlainName symbol.name) s symbols plain) in
    let here = (All-head (λ symbol. IsPlainName symbol.name) s symbols plain).short in
    omega (arith, rest, here, length-append s.name (0 ∷ names_bytes symbols))

pub strings_size : (symbols : List Symbol) → All (λ symbol. IsPlainName symbol.name) symbols → length (strings_of symbols) ≤ 23 + 65 * length symbols
unfolding strings_of
strings_size symbols plain = omega (arith, names_size symbols plain, length-append section_names (names_bytes symbols))

pub words_size : (words : List ℕ) → length (words_bytes words) ≡ 4 * length words
words_size [] = omega arith
words_size (w ∷ words) = let rest = words_size words in omega (arith, rest)

-- ---- the header at the front

no_header_fault : (p : Places) (rest : List ℕ) → header_fault_of (file_header p ++ rest) ≡ None
unfolding header_fault_of field2 field4
no_header_fault p rest =
    let long : nat_lt (length (file_header p ++ rest)) 52 ≡ false = le-ltb _ _ (omega arith) in
    rw long refl

section_table_is : (p : Places) (rest : List ℕ) → p.sections < 2 ^ 32 → section_table_of (file_header p ++ rest) ≡ p.sections
unfolding field4
section_table_is p rest fits = number4 p.sections [] fits

section_count_is : (p : Places) (rest : List ℕ) → section_count_of (file_header p ++ rest) ≡ 4
unfolding field2
section_count_is p rest = refl

program_table_is : (p : Places) (rest : List ℕ) → program_table_of (file_header p ++ rest) ≡ 52
unfolding field4
program_table_is p rest = refl

program_count_is : (p : Places) (rest : List ℕ) → program_count_of (file_header p ++ rest) ≡ 1
unfolding field2
program_count_is p rest = refl

program_size_is : (p : Places) (rest : List ℕ) → field2 (file_header p ++ rest) 42 ≡ 32
unfolding field2
program_size_is p rest = refl

section_size_is : (p : Places) (rest : List ℕ) → field2 (file_header p ++ rest) 46 ≡ 40
unfolding field2
section_size_is p rest = refl

-- ---- the segment

plain_segment : ℕ → ℕ → ℕ → ProgramHeader
plain_segment base filled size = record { kind = 1; offset = 84; address = base; filled = filled; size = size }

loaded_is : (p : Places) (rest : List ℕ) → p.base < 2 ^ 32 → p.text_size < 2 ^ 32
    → loaded_of (file_header p ++ (segment_header p ++ rest)) ≡ plain_segment p.base p.text_size p.text_size ∷ []
unfolding loaded_of headers_from program_header field2 field4 plain_segment
loaded_is p rest base size =
    ap (λ b. plain_segment b (little_number 4 (little_bytes 4 p.text_size)) (little_number 4 (little_bytes 4 p.text_size)) ∷ []) (number4 p.base [] base)
    ∙ ap (λ s. plain_segment p.base s (little_number 4 (little_bytes 4 p.text_size)) ∷ []) (number4 p.text_size [] size)
    ∙ ap (λ s. plain_segment p.base p.text_size s ∷ []) (number4 p.text_size [] size)

-- ---- the sections

plain_text : ℕ → ℕ → SectionHeader
plain_text base size = record { kind = 1; flags = 6; address = base; offset = 84; size = size; link = 0; entry_size = 0 }

plain_symbols : ℕ → ℕ → SectionHeader
plain_symbols place size = record { kind = 2; flags = 0; address = 0; offset = place; size = size; link = 3; entry_size = 16 }

plain_strings : ℕ → ℕ → SectionHeader
plain_strings place size = record { kind = 3; flags = 0; address = 0; offset = place; size = size; link = 0; entry_size = 0 }

no_section : SectionHeader
no_section = record { kind = 0; flags = 0; address = 0; offset = 0; size = 0; link = 0; entry_size = 0 }

-- the places' numbers have four bytes each
pub record FitPlaces (p : Places) : Type 0 where
  pub base : p.base < 2 ^ 32
  pub text_size : p.text_size < 2 ^ 32
  pub symbols : p.symbols < 2 ^ 32
  pub symbols_size : p.symbols_size < 2 ^ 32
  pub strings : p.strings < 2 ^ 32
  pub strings_size : p.strings_size < 2 ^ 32
  pub sections : p.sections < 2 ^ 32

none_at : (p : Places) → section_header (section_headers_bytes p) 0 ≡ no_section
unfolding section_header field4 no_section
none_at p = refl

text_at : (p : Places) → FitPlaces p → section_header (section_headers_bytes p) 40 ≡ plain_text p.base p.text_size
unfolding section_header field4 plain_text
text_at p fits =
    ap (λ b. plain_text b (little_number 4 (little_bytes 4 p.text_size))) (number4 p.base [] fits.base) ∙ ap (plain_text p.base) (number4 p.text_size [] fits.text_size)

symbols_at : (p : Places) → FitPlaces p → section_header (section_headers_bytes p) 80 ≡ plain_symbols p.symbols p.symbols_size
unfolding section_header field4 plain_symbols
symbols_at p fits =
    ap (λ b. plain_symbols b (little_number 4 (little_bytes 4 p.symbols_size))) (number4 p.symbols [] fits.symbols)
    ∙ ap (plain_symbols p.symbols) (number4 p.symbols_size [] fits.symbols_size)

strings_at : (p : Places) → FitPlaces p → section_header (section_headers_bytes p) 120 ≡ plain_strings p.strings p.strings_size
unfolding section_header field4 plain_strings
strings_at p fits =
    ap (λ b. plain_strings b (little_number 4 (little_bytes 4 p.strings_size))) (number4 p.strings [] fits.strings)
    ∙ ap (plain_strings p.strings) (number4 p.strings_size [] fits.strings_size)

four_sections : Places → List SectionHeader
four_sections p = no_section ∷ plain_text p.base p.text_size ∷ plain_symbols p.symbols p.symbols_size ∷ plain_strings p.strings p.strings_size ∷ []

-- the file is known by its section headers, where they stand and how many there are
pub record EndsInSections (p : Places) (file front : List ℕ) : Type 0 where
  pub is : file ≡ front ++ section_headers_bytes p
  pub table : section_table_of file ≡ length front
  pub count : section_count_of file ≡ 4

sections_from : (p : Places) (front : List ℕ) → FitPlaces p → headers_from (section_header (front ++ section_headers_bytes p)) (length front) 40 4 ≡ four_sections p
unfolding headers_from four_sections
sections_from p front fits =
    rw (
      section_header-after front (section_headers_bytes p) 0,
      section_header-after front (section_headers_bytes p) 40,
      section_header-after front (section_headers_bytes p) 80,
      section_header-after front (section_headers_bytes p) 120,
      none_at p,
      text_at p fits,
      symbols_at p fits,
      strings_at p fits,
    ) refl

sections_are : (p : Places) (file front : List ℕ) → FitPlaces p → EndsInSections p file front → section_headers file ≡ four_sections p
sections_are p file front fits ends = rw (ends.table, ends.count, ends.is) (sections_from p front fits)

-- ---- the whole file

-- where the parts stand, and what holds of them
pub record Laid (p : Places) (code : List ℕ) (names : List Symbol) : Type 0 where
  pub base : p.base < 2 ^ 32
  pub text_size : p.text_size ≡ 4 * length code
  pub symbols : p.symbols ≡ 84 + p.text_size
  pub symbols_size : p.symbols_size ≡ 16 * (length names + 1)
  pub strings : p.strings ≡ p.symbols + p.symbols_size
  pub strings_size : p.strings_size ≡ length (strings_of names)
  pub sections : p.sections ≡ p.strings + p.strings_size + padding (p.strings + p.strings_size)
  pub some : 0 < length code
  pub few : length code ≤ 1048576
  pub end : p.base + p.text_size ≤ 2 ^ 32
  pub few_symbols : length names ≤ 64
  pub plain : All (λ symbol. IsPlainName symbol.name) names
  pub values : All (λ symbol. symbol.value < 2 ^ 32) names

right7 : (h g w y s z t : List ℕ) → h ++ g ++ w ++ y ++ s ++ z ++ t ≡ h ++ (g ++ (w ++ (y ++ (s ++ (z ++ t)))))
right7 h g w y s z t = simp append_assoc

at_words : (h g w y s z t : List ℕ) → h ++ g ++ w ++ y ++ s ++ z ++ t ≡ (h ++ g) ++ (w ++ (y ++ (s ++ (z ++ t))))
at_words h g w y s z t = simp append_assoc

at_symbols : (h g w y s z t : List ℕ) → h ++ g ++ w ++ y ++ s ++ z ++ t ≡ (h ++ g ++ w) ++ (y ++ (s ++ (z ++ t)))
at_symbols h g w y s z t = simp append_assoc

at_strings : (h g w y s z t : List ℕ) → h ++ g ++ w ++ y ++ s ++ z ++ t ≡ (h ++ g ++ w ++ y) ++ (s ++ (z ++ t))
at_strings h g w y s z t = simp append_assoc

tables_fit_by : (file : List ℕ) (table : ℕ) → program_count_of file ≡ 1 → section_count_of file ≡ 4 → field2 file 42 ≡ 32 → field2 file 46 ≡ 40
    → program_table_of file ≡ 52 → section_table_of file ≡ table → 84 ≤ length file → table + 160 ≤ length file → tables_fit file ≡ true
unfolding tables_fit
tables_fit_by file table programs sections size1 size2 first second long longer =
    rw (programs, sections, size1, size2, first, second, le-leb 84 (length file) long, le-leb (table + 160) (length file) longer) refl

segment_is_fit : (file : List ℕ) (base size : ℕ) → 84 + size ≤ length file → base + size ≤ 2 ^ 32 → list_all (segment_fits file) (plain_segment base size size ∷ []) ≡ true
unfolding plain_segment
segment_is_fit file base size long end = rw (le-leb (84 + size) (length file) long, le-leb size size (omega arith), le-leb (base + size) (2 ^ 32) end) refl

code_is_within : (base size : ℕ) → list_all (code_fits (plain_segment base size size ∷ [])) (plain_text base size ∷ []) ≡ true
unfolding plain_segment plain_text
code_is_within base size = rw (le-leb base base (omega arith), le-leb (base + size) (base + size) (omega arith)) refl

nothing_late : (base size : ℕ) → size ≤ 67108864 → late_fault_of (plain_segment base size size ∷ []) (plain_text base size ∷ []) ≡ None
unfolding late_fault_of plain_segment plain_text
nothing_late base size small = rw (le-ltb 67108864 (0 + size) (omega arith)) refl

symbols_table_is_fit : (file : List ℕ) (place size count strings strings_size : ℕ) → size ≡ 16 * count → section_count_of file ≡ 4
    → names_header_of file (plain_symbols place size) ≡ plain_strings strings strings_size → place + size ≤ length file → strings + strings_size ≤ length file
    → symbol_table_fits file (plain_symbols place size) ≡ true
unfolding symbol_table_fits plain_symbols plain_strings
symbols_table_is_fit file place size count strings strings_size whole sections names long longer =
    let exact : (size % 16 == 0) ≡ true = eq-eqb (size % 16) 0 (omega arith) in
    rw (exact, sections, names, le-leb (place + size) (length file) long, le-leb (strings + strings_size) (length file) longer) refl

module _ (p : Places) (code : List ℕ) (names : List Symbol) (laid : Laid p code names) where
  file : List ℕ
  file = file_of p code names (strings_of names)

  zeros : List ℕ
  zeros = replicate (padding (p.strings + p.strings_size)) 0

  behind_strings : List ℕ
  behind_strings = zeros ++ section_headers_bytes p

  front : List ℕ
  front = file_header p ++ segment_header p ++ words_bytes code ++ symbols_bytes names ++ strings_of names ++ zeros

  text_length : length (words_bytes code) ≡ p.text_size
  text_length = words_size code ∙ sym laid.text_size

  table_length : length (symbols_bytes names) ≡ p.symbols_size
  table_length =
      let es = symbols_bytes_size (entries_from 23 names) in
      let m = length-entries_from 23 names in
      let both = length-append (words_bytes (0 ∷ 0 ∷ 0 ∷ 0 ∷ [])) (flat_map symbol_bytes (entries_from 23 names)) in
      omega (arith, es, m, both, laid.symbols_size)

  few_names : length (strings_of names) ≤ 4183
  few_names = let size = strings_size names laid.plain in omega (arith, size, laid.few_symbols)

  pad : padding (p.strings + p.strings_size) ≤ 3
  pad = omega arith

  fit : FitPlaces p
  fit = record {
    base = laid.base;
    text_size = omega (arith, laid.text_size, laid.few);
    symbols = omega (arith, laid.symbols, laid.text_size, laid.few);
    symbols_size = omega (arith, laid.symbols_size, laid.few_symbols);
    strings = omega (arith, laid.strings, laid.symbols, laid.symbols_size, laid.text_size, laid.few, laid.few_symbols);
    strings_size = omega (arith, laid.strings_size, few_names);
    sections = omega (arith, laid.sections, laid.strings, laid.symbols, laid.symbols_size, laid.text_size, laid.few, laid.few_symbols, laid.strings_size, few_names, pad);
  }

  header_and_segment : length (file_header p ++ segment_header p) ≡ 84
  header_and_segment = refl

  before_symbols : length (file_header p ++ segment_header p ++ words_bytes code) ≡ p.symbols
  before_symbols = omega (arith, length-append (file_header p ++ segment_header p) (words_bytes code), text_length, laid.symbols)

  before_strings : length (file_header p ++ segment_header p ++ words_bytes code ++ symbols_bytes names) ≡ p.strings
  before_strings =
      omega (arith, length-append (file_header p ++ segment_header p ++ words_bytes code) (symbols_bytes names), before_symbols, table_length, laid.strings)

  before_sections : length front ≡ p.sections
  unfolding front zeros
  before_sections =
      omega (
        arith,
        length-append (file_header p ++ segment_header p ++ words_bytes code ++ symbols_bytes names ++ strings_of names) (replicate (padding (p.strings + p.strings_size)) 0),
        length-append (file_header p ++ segment_header p ++ words_bytes code ++ symbols_bytes names) (strings_of names),
        before_strings,
        laid.strings_size,
        length-replicate {A = ℕ} (padding (p.strings + p.strings_size)) 0,
        laid.sections,
      )

  file_length : length file ≡ p.sections + 160
  unfolding file file_of front zeros
  file_length = length-append front (section_headers_bytes p) ∙ ap (λ n. n + 160) before_sections

  right : file ≡ file_header p ++ (segment_header p ++ (words_bytes code ++ (symbols_bytes names ++ (strings_of names ++ behind_strings))))
  unfolding file file_of behind_strings zeros
  right = right7 (file_header p) (segment_header p) (words_bytes code) (symbols_bytes names) (strings_of names) (replicate (padding (p.strings + p.strings_size)) 0) (section_headers_bytes p)

  no_fault : header_fault_of file ≡ None
  no_fault = ap header_fault_of right ∙ no_header_fault p _

  table_is : section_table_of file ≡ p.sections
  table_is = ap section_table_of right ∙ section_table_is p _ fit.sections

  count_is : section_count_of file ≡ 4
  count_is = ap section_count_of right ∙ section_count_is p _

  ends : EndsInSections p file front
  unfolding file file_of front zeros
  ends = record { is = refl; table = table_is ∙ sym before_sections; count = count_is }

  headers : section_headers file ≡ four_sections p
  headers = sections_are p file front fit ends

  loaded : loaded_of file ≡ plain_segment p.base p.text_size p.text_size ∷ []
  loaded = ap loaded_of right ∙ loaded_is p _ fit.base fit.text_size

  text : code_of file ≡ plain_text p.base p.text_size ∷ []
  unfolding code_of four_sections no_section plain_text plain_symbols plain_strings
  text =
      ap (filter is_code) headers
      ∙ ap (λ b. cond b (plain_text p.base p.text_size ∷ []) []) (lt-ltb 0 p.text_size (omega (arith, laid.text_size, laid.some)))

  table : symbol_table_of file ≡ Some (plain_symbols p.symbols p.symbols_size)
  unfolding symbol_table_of four_sections no_section plain_text plain_symbols plain_strings
  table = ap (find is_symbol_table) headers

  names_header : names_header_of file (plain_symbols p.symbols p.symbols_size) ≡ plain_strings p.strings p.strings_size
  unfolding names_header_of plain_symbols
  names_header = rw (ends.table, ends.is) (section_header-after front (section_headers_bytes p) 120 ∙ strings_at p fit)

  words_in_file : file ≡ (file_header p ++ segment_header p) ++ (words_bytes code ++ (symbols_bytes names ++ (strings_of names ++ behind_strings)))
  unfolding file file_of behind_strings zeros
  words_in_file = at_words (file_header p) (segment_header p) (words_bytes code) (symbols_bytes names) (strings_of names) (replicate (padding (p.strings + p.strings_size)) 0) (section_headers_bytes p)

  symbols_in_file : file ≡ (file_header p ++ segment_header p ++ words_bytes code) ++ (symbols_bytes names ++ (strings_of names ++ behind_strings))
  unfolding file file_of behind_strings zeros
  symbols_in_file = at_symbols (file_header p) (segment_header p) (words_bytes code) (symbols_bytes names) (strings_of names) (replicate (padding (p.strings + p.strings_size)) 0) (section_headers_bytes p)

  strings_in_file : file ≡ (file_header p ++ segment_header p ++ words_bytes code ++ symbols_bytes names) ++ (strings_of names ++ behind_strings)
  unfolding file file_of behind_strings zeros
  strings_in_file = at_strings (file_header p) (segment_header p) (words_bytes code) (symbols_bytes names) (strings_of names) (replicate (padding (p.strings + p.strings_size)) 0) (section_headers_bytes p)

  names_are : names_of file (plain_symbols p.symbols p.symbols_size) ≡ strings_of names
  unfolding names_of plain_strings
  names_are =
      ap (λ (h : SectionHeader). take h.size (drop h.offset file)) names_header
      ∙ ap (λ f. take p.strings_size (drop p.strings f)) strings_in_file
      ∙ ap (λ n. take n (drop p.strings ((file_header p ++ segment_header p ++ words_bytes code ++ symbols_bytes names) ++ (strings_of names ++ behind_strings)))) laid.strings_size
      ∙ ap (λ n. take (length (strings_of names)) (drop n ((file_header p ++ segment_header p ++ words_bytes code ++ symbols_bytes names) ++ (strings_of names ++ behind_strings)))) (sym before_strings)
      ∙ part-after (file_header p ++ segment_header p ++ words_bytes code ++ symbols_bytes names) (strings_of names) behind_strings

  fit_entries : AllByRecursion FitsEntry (entries_from 23 names)
  fit_entries =
      let size = names_size names laid.plain in
      entries_fit 23 names (recursion_from_All (λ (symbol : Symbol). symbol.value < 2 ^ 32) names laid.values) (omega (arith, size, laid.few_symbols))

  entries_are : entries_of file (plain_symbols p.symbols p.symbols_size) ≡ entries_from 23 names
  unfolding entries_of plain_symbols
  entries_are =
      let count : p.symbols_size / 16 ≡ suc (length (entries_from 23 names)) = omega (arith, laid.symbols_size, length-entries_from 23 names) in
      ap (λ f. map entry_of (filter is_defined (headers_from (symbol_header f) p.symbols 16 (p.symbols_size / 16)))) symbols_in_file
      ∙ ap (λ n. map entry_of (filter is_defined (headers_from
      (symbol_header ((file_header p ++ segment_header p ++ words_bytes code) ++ (symbols_bytes names ++ (strings_of names ++ behind_strings)))) n 16 (p.symbols_size / 16)))) (sym before_symbols)
      ∙ ap (λ n. map entry_of (filter is_defined (headers_from
      (symbol_header ((file_header p ++ segment_header p ++ words_bytes code) ++ (symbols_bytes names ++ (strings_of names ++ behind_strings))))
      (length (file_header p ++ segment_header p ++ words_bytes code)) 16 n))) count
      ∙ table_read (file_header p ++ segment_header p ++ words_bytes code) (entries_from 23 names) (strings_of names ++ behind_strings) fit_entries

  memory_is : take p.text_size (drop 84 file) ≡ words_bytes code
  memory_is =
      ap (λ f. take p.text_size (drop 84 f)) words_in_file
      ∙ ap (λ n. take n (drop 84 ((file_header p ++ segment_header p) ++ (words_bytes code ++ (symbols_bytes names ++ (strings_of names ++ behind_strings)))))) (sym text_length)
      ∙ part-after (file_header p ++ segment_header p) (words_bytes code) (symbols_bytes names ++ (strings_of names ++ behind_strings))

  tables : tables_fit file ≡ true
  tables =
      tables_fit_by file p.sections (ap program_count_of right ∙ program_count_is p _) count_is (ap (λ f. field2 f 42) right ∙ program_size_is p _)
      (ap (λ f. field2 f 46) right ∙ section_size_is p _) (ap program_table_of right ∙ program_table_is p _) table_is
      (omega (arith, file_length)) (omega (arith, file_length))

  parts : parts_fit file ≡ true
  parts =
      parts_from file (plain_segment p.base p.text_size p.text_size ∷ []) (plain_text p.base p.text_size ∷ []) true tables (sym loaded) (sym text)
      (sym
      (ap (λ b. b && list_all (code_fits (plain_segment p.base p.text_size p.text_size ∷ [])) (plain_text p.base p.text_size ∷ []))
      (segment_is_fit file p.base p.text_size (omega (arith, file_length, laid.sections, laid.strings, laid.symbols)) laid.end)
      ∙ code_is_within p.base p.text_size))

  table_fits : symbol_table_fits file (plain_symbols p.symbols p.symbols_size) ≡ true
  table_fits =
      symbols_table_is_fit file p.symbols p.symbols_size (length names + 1) p.strings p.strings_size laid.symbols_size count_is names_header
      (omega (arith, file_length, laid.sections, laid.strings)) (omega (arith, file_length, laid.sections))

  symbols : symbols_fit file (Some (plain_symbols p.symbols p.symbols_size)) ≡ true
  unfolding strings_of
  symbols =
      symbols_from file (plain_symbols p.symbols p.symbols_size) (strings_of names) (entries_from 23 names) true table_fits (sym names_are) (sym entries_are)
      (sym (names_end section_names names))

  image_with : ℕ → List ℕ → List Symbol → ImageData
  image_with size bytes symbols = record {
    code = record { address = p.base; size = size } ∷ [];
    memory = record { address = p.base; bytes = bytes; size = size } ∷ [];
    symbols = symbols;
  }

  whole_names : AllByRecursion (λ (symbol : Symbol). AllByRecursion (λ byte. byte ≢ 0) symbol.name) names
  whole_names =
      recursion_from_All (λ (symbol : Symbol). AllByRecursion (λ byte. byte ≢ 0) symbol.name) names
      (λ k d below. recursion_from_All (λ byte. byte ≢ 0) (get_or names k d).name (laid.plain k d below).whole)

  names_back : map (symbol_in (strings_of names)) (entries_from 23 names) ≡ names
  unfolding strings_of
  names_back = names_read section_names names whole_names

  pub plain_is_image : elf_of (file_of p code names (strings_of names)) ≡ Ok (plain_image p.base code names)
  unfolding file image_with plain_segment plain_text
  plain_is_image =
      ap (λ h. judged (first_fault h (body_fault_of file)) (image_of file)) no_fault
      ∙ judged_image file (plain_symbols p.symbols p.symbols_size) (plain_segment p.base p.text_size p.text_size ∷ []) (plain_text p.base p.text_size ∷ []) (strings_of names)
      (entries_from 23 names) parts table symbols (nothing_late p.base p.text_size (omega (arith, laid.text_size, laid.few))) (sym loaded) (sym text) (sym names_are) (sym entries_are)
      ∙ ap (λ m. Ok (image_with p.text_size m (map (symbol_in (strings_of names)) (entries_from 23 names)))) memory_is
      ∙ ap (λ ss. Ok (image_with p.text_size (words_bytes code) ss)) names_back
      ∙ ap (λ n. Ok (image_with n (words_bytes code) names)) laid.text_size

laid_of : (base : ℕ) (code : List ℕ) (names : List Symbol) → IsPlain base code names → base < 2 ^ 32 → All (λ symbol. symbol.value < 2 ^ 32) names
    → Laid (places_of base code names) code names
unfolding places_of
laid_of base code names plain low values = record {
  base = low;
  text_size = refl;
  symbols = refl;
  symbols_size = refl;
  strings = refl;
  strings_size = refl;
  sections = refl;
  some = plain.some;
  few = plain.few;
  end = plain.end;
  few_symbols = plain.few_symbols;
  plain = plain.names;
  values = values;
}

base_is : (base : ℕ) (code : List ℕ) (names : List Symbol) → (places_of base code names).base ≡ base
unfolding places_of
base_is base code names = refl

-- the plain file of words and symbols has their image
pub plain_file_is_image : (base : ℕ) (code : List ℕ) (names : List Symbol) → IsPlain base code names → base < 2 ^ 32 → All (λ symbol. symbol.value < 2 ^ 32) names
    → IsImageOf (plain_file base code names) (plain_image base code names)
plain_file_is_image base code names plain low values =
    plain_is_image (places_of base code names) code names (laid_of base code names plain low values)
    ∙ ap (λ b. Ok (plain_image b code names)) (base_is base code names)
