use Rattle.whole_rows.specs.Rows.{column_terms_of}
use Rattle.whole_rows.proofs.Totals.{AreSides}
use Rattle.split_trees.proofs.sums.column_sums.Given as goal

abbrev pub invariant-loop-i : goal.invariant-loop-i
invariant-loop-i l = AreSides (column_terms_of l.rows l.column) l.multipliers l.i l.more l.less
