use Rattle.std.proofs.Common.{◌≡◌, false, ℕ, ◌+◌, ◌*◌, ◌<◌}
use Rattle.elf_image.specs.Elf.{section_header, is_symbol_table}
use Rattle.elf_image.proofs.tables.symbol_table_from.Given as goal

-- no header so far is that of a table of symbols
abbrev pub invariant-loop-i : goal.invariant-loop-i
invariant-loop-i l = (k : ℕ) → k < l.i → is_symbol_table (section_header l.bytes (l.table + 40 * k)) ≡ false
