use Rattle.std.proofs.Common.{◌≡◌, map, take, unsigned_abs}
use Rattle.cut_search.proofs.leaves.sizes.Given as goal

abbrev pub invariant-loop-i : goal.invariant-loop-i
invariant-loop-i l = l.sizes ≡ map unsigned_abs (take l.i l.row)
