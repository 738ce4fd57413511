use Rattle.whole_rows.proofs.Totals.{IsTotal}
use Rattle.split_trees.proofs.sums.right_total.Given as goal

abbrev pub invariant-loop-row : goal.invariant-loop-row
invariant-loop-row l = IsTotal l.rows.rights l.multipliers l.row l.total
