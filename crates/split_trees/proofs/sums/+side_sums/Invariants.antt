use Rattle.std.proofs.Common.{length}
use Rattle.split_trees.proofs.sums.+side_sums.Given as goal

abbrev pub decreases-side_sums : goal.decreases-side_sums
decreases-side_sums l = length l.sides.now
