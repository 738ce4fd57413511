use Rattle.std.proofs.Common.{length}
use Rattle.split_trees.proofs.sums.+side_totals.Given as goal

abbrev pub decreases-side_totals : goal.decreases-side_totals
decreases-side_totals l = length l.sides.now
