use Rattle.std.proofs.Common.{◌≡◌, map, take}
use Rattle.elf_image.specs.Elf.{section_of}
use Rattle.elf_image.proofs.elf.sections.Given as goal

abbrev pub invariant-loop-header : goal.invariant-loop-header
invariant-loop-header l = l.sections ≡ map section_of (take l.header-index l.code)
