use Rattle.std.proofs.Common.{◌≡◌, ◌≤◌, take}
use Rattle.elf_image.specs.Elf.{loaded_size}
use Rattle.elf_image.proofs.spans.is_large.Given as goal

abbrev pub invariant-loop-header : goal.invariant-loop-header
invariant-loop-header l = record { so_far : l.total ≡ loaded_size (take l.header-index l.loaded); small : l.total ≤ 67108864 }
