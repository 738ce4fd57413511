-- The word of each kind of fault.
use Rattle.std.specs.Prelude.{ℕ, List, codes}
use Rattle.elf_image.specs.declared.fault.ElfKind.{ElfKind}
use Rattle.elf_image.specs.declared.fault.ElfKind.TheVariants.{Short, Magic, Class, Machine, Kind, Compressed, Range, NoSymbols, Overlap, NoCode, Unaligned, Large}

abbrev pub elf_word : ElfKind → List ℕ
elf_word Short = codes "Short"
elf_word Magic = codes "Magic"
elf_word Class = codes "Class"
elf_word Machine = codes "Machine"
elf_word Kind = codes "Kind"
elf_word Compressed = codes "Compressed"
elf_word Range = codes "Range"
elf_word NoSymbols = codes "NoSymbols"
elf_word Overlap = codes "Overlap"
elf_word NoCode = codes "NoCode"
elf_word Unaligned = codes "Unaligned"
elf_word Large = codes "Large"
