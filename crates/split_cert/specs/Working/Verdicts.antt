-- The verdict on a split certificate whose states are closed, by that on its tree.
use Rattle.std.specs.Prelude.{ℕ}
use Rattle.whole_rows.specs.declared.DualVerdict.{DualVerdict}
use Rattle.whole_rows.specs.declared.DualVerdict.TheVariants as duals
use Rattle.certificate.specs.declared.verdict.Why.TheVariants as whys
use Rattle.split_trees.specs.declared.verdict.TreeVerdict.{TreeVerdict}
use Rattle.split_trees.specs.declared.verdict.TreeVerdict.TheVariants as trees
use Rattle.split_cert.specs.declared.verdict.SplitVerdict.{SplitVerdict}
use Rattle.split_cert.specs.declared.verdict.SplitVerdict.TheVariants.{Yes, No}
use Rattle.split_cert.specs.declared.verdict.SplitWhy.TheVariants.{Cut, Leaf}

abbrev pub by_leaf : ℕ → DualVerdict → SplitVerdict
by_leaf leaf duals.Yes = Yes
by_leaf leaf (duals.Count given wanted) = No (Leaf leaf (whys.Count given wanted))
by_leaf leaf (duals.Column column) = No (Leaf leaf (whys.Column column))
by_leaf leaf duals.Bound = No (Leaf leaf whys.Bound)

abbrev pub verdict_of : TreeVerdict → SplitVerdict
verdict_of trees.Yes = Yes
verdict_of (trees.Cut column) = No (Cut column)
verdict_of (trees.Leaf leaf why) = by_leaf leaf why
