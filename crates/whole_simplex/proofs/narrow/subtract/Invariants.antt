use Rattle.std.proofs.Common.{◌≡◌, drop, length, pos}
use Rattle.whole_simplex.specs.Tables.{combined}
use Rattle.whole_simplex.proofs.Subtracting.{subtracted}
use Rattle.whole_simplex.proofs.narrow.subtract.Given as goal

abbrev pub invariant-loop-i : goal.invariant-loop-i
invariant-loop-i l =
    (subtracted (drop l.i l.places) l.row l.a l.pivot ≡ combined (pos 1) l.fn.row l.a l.pivot) × (length l.row ≡ length l.pivot)
