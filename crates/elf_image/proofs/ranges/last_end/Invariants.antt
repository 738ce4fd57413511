use Rattle.std.proofs.Common.{◌≡◌, false, ℕ, ◌≤◌, length}
use Rattle.elf_image.specs.Elf.{has_end}
use Rattle.elf_image.proofs.ranges.last_end.Given as goal

-- no zero byte stands from the end on
abbrev pub invariant-loop-end : goal.invariant-loop-end
invariant-loop-end l = record { within : l.end ≤ length l.names; none : (place : ℕ) → l.end ≤ place → has_end l.names place ≡ false }

abbrev pub decreases-loop-end : goal.decreases-loop-end
decreases-loop-end l = l.end
