use Rattle.std.proofs.Common.{◌++◌}
use Rattle.whole_rows.specs.Duals.{CoversBelow}
use Rattle.split_trees.specs.Sides.{split_rows}
use Rattle.split_trees.proofs.leaf.first_uncovered.Given as goal

abbrev pub invariant-loop-column : goal.invariant-loop-column
invariant-loop-column l = CoversBelow (split_rows l.rows l.sides) (l.own ++ l.cuts) l.denominator l.column
