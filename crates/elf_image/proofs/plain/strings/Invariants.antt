use Rattle.std.proofs.Common.{◌≡◌, ◌++◌, drop}
use Rattle.elf_image.specs.Plain.{names_bytes, section_names}
use Rattle.elf_image.proofs.plain.strings.Given as goal

-- with the names that are left it is whole
abbrev pub invariant-loop-symbol : goal.invariant-loop-symbol
invariant-loop-symbol l = l.strings.items ++ names_bytes (drop l.symbol-index l.symbols) ≡ section_names ++ names_bytes l.symbols
