use Rattle.whole_rows.proofs.Totals.{AreSides}
use Rattle.whole_rows.proofs.duals.column_sides.Given as goal

abbrev pub invariant-loop-term : goal.invariant-loop-term
invariant-loop-term l = AreSides l.terms l.multipliers l.term-index l.more l.less
