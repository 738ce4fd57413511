-- The edges of all nodes so far fit.
use Rattle.std.proofs.Common.{◌<◌, ℕ}
use Rattle.counted_loops.specs.Working.Entering.{NodeFits}
use Rattle.counted_loops.proofs.entering.fits.Given as goal

abbrev pub invariant-loop-number : goal.invariant-loop-number
invariant-loop-number l = (k : ℕ) → k < l.number → NodeFits l.flow l.front k
