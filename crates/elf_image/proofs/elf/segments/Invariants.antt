use Rattle.std.proofs.Common.{◌≡◌, map, take}
use Rattle.elf_image.specs.Elf.{segment_of}
use Rattle.elf_image.proofs.elf.segments.Given as goal

abbrev pub invariant-loop-header : goal.invariant-loop-header
invariant-loop-header l = l.segments ≡ map (segment_of l.bytes) (take l.header-index l.loaded)
