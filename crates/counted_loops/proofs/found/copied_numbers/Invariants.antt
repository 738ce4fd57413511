-- Those so far are copied.
use Rattle.std.proofs.Common.{◌≡◌, take}
use Rattle.counted_loops.proofs.found.copied_numbers.Given as goal

abbrev pub invariant-loop-number : goal.invariant-loop-number
invariant-loop-number l = l.copy ≡ take l.number-index l.numbers
