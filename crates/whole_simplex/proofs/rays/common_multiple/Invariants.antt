use Rattle.whole_simplex.proofs.Multiples.{IsMultiplied}
use Rattle.whole_simplex.proofs.rays.common_multiple.Given as goal

abbrev pub invariant-loop-i : goal.invariant-loop-i
invariant-loop-i l = IsMultiplied l.lines l.i l.multiple
