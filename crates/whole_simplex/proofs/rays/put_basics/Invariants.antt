use Rattle.whole_rows.specs.Row.{AreInRange}
use Rattle.whole_simplex.proofs.Multiples.{IsPlaced}
use Rattle.whole_simplex.proofs.rays.put_basics.Given as goal

abbrev pub invariant-loop-i : goal.invariant-loop-i
invariant-loop-i l = IsPlaced l.place l.multiple l.lines l.i l.fn.ray l.ray × AreInRange l.ray
