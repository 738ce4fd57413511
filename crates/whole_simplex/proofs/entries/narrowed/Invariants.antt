use Rattle.std.proofs.Common.{◌≡◌, take}
use Rattle.whole_simplex.specs.Sizes.{AreSmall}
use Rattle.whole_simplex.proofs.entries.narrowed.Given as goal

abbrev pub invariant-loop-i : goal.invariant-loop-i
invariant-loop-i l = (l.narrow.items ≡ take l.i l.row) × AreSmall (take l.i l.row)
