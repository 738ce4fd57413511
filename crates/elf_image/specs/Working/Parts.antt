-- What the reader of ELF files keeps between its steps.
use Rattle.std.specs.Prelude.{◌≡◌, true, List, ℕ, Some}
use Rattle.elf_image.specs.Elf.{parts_fit, loaded_of, code_of, symbol_table_fits, symbols_fit, entries_of}
use Rattle.elf_image.specs.Working.Spans.{IsInOrder}
use Rattle.elf_image.specs.declared.elf.Parts.{Parts}
use Rattle.elf_image.specs.declared.headers.SectionHeader.{SectionHeader}
use Rattle.elf_image.specs.declared.symbol.Entry.{Entry}

-- the parts are those of the bytes, and fit
pub record HasParts (bytes : List ℕ) (parts : Parts) : Type 0 where
  pub fit : parts_fit bytes ≡ true
  pub loaded : parts.loaded.items ≡ loaded_of bytes
  pub code : parts.code.items ≡ code_of bytes
  pub order : IsInOrder (loaded_of bytes) parts.spans.items

-- the entries are those of the table, and their names have ends
pub record HasEntries (bytes : List ℕ) (table : SectionHeader) (entries : List Entry) : Type 0 where
  pub table_fits : symbol_table_fits bytes table ≡ true
  pub fit : symbols_fit bytes (Some table) ≡ true
  pub are : entries ≡ entries_of bytes table
