-- The fault of a file, from the answers of the reader's steps.
use Rattle.std.proofs.Common.{◌≡◌, ℕ, ◌<◌, ◌≤◌, inl, inr, ◌%◌, ◌==◌, All, filter, Bool, true, false, ◌&&◌, nat_lt, List, length, Option, Some, None, Ok, Err, map, refl, sym, ◌∙◌, ap}
use Rattle.std.specs.List.{list_all}
use Rattle.std.proofs.lemmas.Bool.{ltb-true, lt-ltb, cases_lt, and_parts}
use Rattle.std.proofs.lemmas.List.Elements.{All-weaker, filter_passes}
use Rattle.elf_image.specs.declared.symbol.Entry.{Entry}
use Rattle.elf_image.specs.Image.{symbol_in}
use Rattle.elf_image.specs.Elf.{parts_fit, tables_fit, segment_fits, code_fits, symbols_fit, symbol_table_fits, symbol_table_of, body_fault_of, header_fault_of, late_fault_of, overlaps, loaded_size, loaded_of, code_of, names_of, entries_of, has_end, image_of, judged, section_of, segment_of, is_code, section_headers}
use Rattle.elf_image.specs.declared.headers.ProgramHeader.{ProgramHeader}
use Rattle.elf_image.specs.declared.headers.SectionHeader.{SectionHeader}
use Rattle.elf_image.specs.declared.fault.ElfKind.{ElfKind}
use Rattle.elf_image.specs.declared.fault.ElfKind.TheVariants as kind

-- ---- the last faults

pub late_overlap : (loaded : List ProgramHeader) (code : List SectionHeader) → overlaps loaded ≡ true → late_fault_of loaded code ≡ Some kind.Overlap
unfolding late_fault_of
late_overlap loaded code h = rw h refl

pub late_no_code : (loaded : List ProgramHeader) (code : List SectionHeader) → overlaps loaded ≡ false → (length code == 0) ≡ true → late_fault_of loaded code ≡ Some kind.NoCode
unfolding late_fault_of
late_no_code loaded code h none = rw (h, none) refl

pub late_large : (loaded : List ProgramHeader) (code : List SectionHeader) → overlaps loaded ≡ false → (length code == 0) ≡ false
    → nat_lt 67108864 (loaded_size loaded) ≡ true → late_fault_of loaded code ≡ Some kind.Large
unfolding late_fault_of
late_large loaded code h some large = rw (h, some, large) refl

pub late_none : (loaded : List ProgramHeader) (code : List SectionHeader) → overlaps loaded ≡ false → (length code == 0) ≡ false
    → nat_lt 67108864 (loaded_size loaded) ≡ false → late_fault_of loaded code ≡ None
unfolding late_fault_of
late_none loaded code h some small = rw (h, some, small) refl

-- ---- all faults behind the header

pub body_parts : (bytes : List ℕ) → parts_fit bytes ≡ false → body_fault_of bytes ≡ Some kind.Range
unfolding body_fault_of
body_parts bytes h = rw h refl

pub body_no_symbols : (bytes : List ℕ) → parts_fit bytes ≡ true → symbol_table_of bytes ≡ None → body_fault_of bytes ≡ Some kind.NoSymbols
unfolding body_fault_of symbols_fit
body_no_symbols bytes h none = rw (h, none) refl

pub body_symbols : (bytes : List ℕ) (table : SectionHeader) → parts_fit bytes ≡ true → symbol_table_of bytes ≡ Some table → symbols_fit bytes (Some table) ≡ false
    → body_fault_of bytes ≡ Some kind.Range
unfolding body_fault_of
body_symbols bytes table h found out = rw (h, found, out) refl

pub body_late : (bytes : List ℕ) (table : SectionHeader) → parts_fit bytes ≡ true → symbol_table_of bytes ≡ Some table → symbols_fit bytes (Some table) ≡ true
    → body_fault_of bytes ≡ late_fault_of (loaded_of bytes) (code_of bytes)
unfolding body_fault_of
body_late bytes table h found fit = rw (h, found, fit) refl

-- ---- parts and symbols

first_parts : (bytes : List ℕ) → parts_fit bytes ≡ true → (tables_fit bytes ≡ true) × (list_all (segment_fits bytes) (loaded_of bytes) ≡ true)
unfolding parts_fit
first_parts bytes h =
    let both = and_parts (tables_fit bytes && list_all (segment_fits bytes) (loaded_of bytes)) (list_all (code_fits (loaded_of bytes)) (code_of bytes)) h in
    and_parts (tables_fit bytes) (list_all (segment_fits bytes) (loaded_of bytes)) both.0

pub tables_of_parts : (bytes : List ℕ) → parts_fit bytes ≡ true → tables_fit bytes ≡ true
tables_of_parts bytes h = (first_parts bytes h).0

pub segments_of_parts : (bytes : List ℕ) (loaded : List ProgramHeader) → loaded ≡ loaded_of bytes → parts_fit bytes ≡ true → list_all (segment_fits bytes) loaded ≡ true
segments_of_parts bytes loaded are_loaded h = ap (list_all (segment_fits bytes)) are_loaded ∙ (first_parts bytes h).1

pub parts_without_tables : (bytes : List ℕ) → tables_fit bytes ≡ false → parts_fit bytes ≡ false
unfolding parts_fit
parts_without_tables bytes h = rw h refl

pub parts_are : (bytes : List ℕ) (segments code : Bool) → tables_fit bytes ≡ true → list_all (segment_fits bytes) (loaded_of bytes) ≡ segments
    → list_all (code_fits (loaded_of bytes)) (code_of bytes) ≡ code → parts_fit bytes ≡ (segments && code)
unfolding parts_fit
parts_are bytes segments code fit a b = rw (fit, a, b) refl

pub symbols_without_table : (bytes : List ℕ) (table : SectionHeader) → symbol_table_fits bytes table ≡ false → symbols_fit bytes (Some table) ≡ false
unfolding symbols_fit
symbols_without_table bytes table h = rw h refl

pub symbols_are : (bytes : List ℕ) (table : SectionHeader) → symbol_table_fits bytes table ≡ true
    → symbols_fit bytes (Some table) ≡ list_all (λ entry. has_end (names_of bytes table) entry.place) (entries_of bytes table)
unfolding symbols_fit
symbols_are bytes table h = rw h refl

pub symbols_from : (bytes : List ℕ) (table : SectionHeader) (names : List ℕ) (entries : List Entry) (answer : Bool) → symbol_table_fits bytes table ≡ true
    → names ≡ names_of bytes table → entries ≡ entries_of bytes table → answer ≡ list_all (λ entry. has_end names entry.place) entries
    → symbols_fit bytes (Some table) ≡ answer
symbols_from bytes table names entries answer fit are_names are_entries is =
    symbols_are bytes table fit
    ∙ sym (is ∙ ap (λ ns. list_all (λ entry. has_end ns entry.place) entries) are_names ∙ ap (list_all (λ entry. has_end (names_of bytes table) entry.place)) are_entries)

pub parts_from : (bytes : List ℕ) (loaded : List ProgramHeader) (code : List SectionHeader) (answer : Bool) → tables_fit bytes ≡ true
    → loaded ≡ loaded_of bytes → code ≡ code_of bytes → answer ≡ (list_all (segment_fits bytes) loaded && list_all (code_fits loaded) code)
    → parts_fit bytes ≡ answer
parts_from bytes loaded code answer fit are_loaded are_code is =
    parts_are bytes _ _ fit refl refl
    ∙ sym
    (is ∙ ap (λ l. list_all (segment_fits bytes) l && list_all (code_fits l) code) are_loaded
    ∙ ap (λ k. list_all (segment_fits bytes) (loaded_of bytes) && list_all (code_fits (loaded_of bytes)) k) are_code)

-- a code section isn't empty
pub code_is_filled : (bytes : List ℕ) → All (λ section. 0 < section.size) (code_of bytes)
unfolding code_of
code_is_filled bytes =
    All-weaker (λ section. is_code section ≡ true) (λ section. 0 < section.size) filled (filter is_code (section_headers bytes)) (filter_passes is_code (section_headers bytes))
  where
    filled : (section : SectionHeader) → is_code section ≡ true → 0 < section.size
    filled section h = ltb-true 0 section.size (and_parts (section.flags % 8 == 6) (nat_lt 0 section.size) h).1

-- a file without a fault in its header has a whole one
pub long_enough : (bytes : List ℕ) → header_fault_of bytes ≡ None → 52 ≤ length bytes
unfolding header_fault_of
long_enough bytes h = elim (cases_lt (length bytes) 52) [
  | inl short ↦ absurd (let e = lt-ltb (length bytes) 52 short in let k = rw e at h in cc)
  | inr long ↦ long
]

pub judged_fault : (bytes : List ℕ) (fault : ElfKind) → body_fault_of bytes ≡ Some fault → judged (body_fault_of bytes) (image_of bytes) ≡ Err fault
judged_fault bytes fault h = ap (λ f. judged f (image_of bytes)) h

-- the image that is made of a file's parts and symbols
pub judged_image : (bytes : List ℕ) (table : SectionHeader) (loaded : List ProgramHeader) (code : List SectionHeader) (names : List ℕ) (entries : List Entry)
    → parts_fit bytes ≡ true → symbol_table_of bytes ≡ Some table → symbols_fit bytes (Some table) ≡ true → late_fault_of loaded code ≡ None
    → loaded ≡ loaded_of bytes → code ≡ code_of bytes → names ≡ names_of bytes table → entries ≡ entries_of bytes table
    → judged (body_fault_of bytes) (image_of bytes)
    ≡ Ok (record { code = map section_of code; memory = map (segment_of bytes) loaded; symbols = map (symbol_in names) entries })
unfolding image_of
judged_image bytes table loaded code names entries fit found symbols late are_loaded are_code are_names are_entries =
    rw (body_late bytes table fit found symbols, ← are_loaded, ← are_code, late, found, ← are_names, ← are_entries) refl

pub late_is : (bytes : List ℕ) (table : SectionHeader) (loaded : List ProgramHeader) (code : List SectionHeader) (fault : Option ElfKind)
    → parts_fit bytes ≡ true → symbol_table_of bytes ≡ Some table → symbols_fit bytes (Some table) ≡ true
    → loaded ≡ loaded_of bytes → code ≡ code_of bytes → fault ≡ late_fault_of loaded code → body_fault_of bytes ≡ fault
late_is bytes table loaded code fault fit found symbols are_loaded are_code is =
    body_late bytes table fit found symbols ∙ sym (is ∙ ap (λ l. late_fault_of l code) are_loaded ∙ ap (late_fault_of (loaded_of bytes)) are_code)
