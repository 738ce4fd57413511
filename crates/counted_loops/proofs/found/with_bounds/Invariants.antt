-- The loops so far have their bounds.
use Rattle.std.proofs.Common.{◌≡◌, take}
use Rattle.counted_loops.specs.Found as words
use Rattle.counted_loops.proofs.found.with_bounds.Given as goal

abbrev pub invariant-loop-i : goal.invariant-loop-i
invariant-loop-i l = l.made ≡ words.with_bounds (take l.i l.loops) (take l.i l.found)
