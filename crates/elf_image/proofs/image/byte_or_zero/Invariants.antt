use Rattle.std.proofs.Common.{◌≡◌, false, ℕ, ◌<◌, get_or}
use Rattle.elf_image.specs.Image.{covers}
use Rattle.elf_image.specs.declared.image.Segment.{Segment}
use Rattle.elf_image.proofs.image.byte_or_zero.Given as goal

abbrev pub invariant-loop-segment : goal.invariant-loop-segment
invariant-loop-segment l = (k : ℕ) (d : Segment) → k < l.segment-index → covers (get_or l.memory k d) l.address ≡ false
