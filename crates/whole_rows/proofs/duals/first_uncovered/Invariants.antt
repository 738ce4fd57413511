use Rattle.whole_rows.specs.Duals.{CoversBelow}
use Rattle.whole_rows.proofs.duals.first_uncovered.Given as goal

abbrev pub invariant-loop-column : goal.invariant-loop-column
invariant-loop-column l = CoversBelow l.rows l.multipliers l.denominator l.column
