-- Trees of cuts that are good for rows and a bound: each cut is of a column of the rows, and the multipliers of each leaf are
-- good for the rows and those of the sides of the cuts above it. Else there is a first condition that fails, in this order:
-- the columns that are cut, each cut before its low part and that before its high part; the leaves, low parts first.
use Rattle.std.specs.Prelude.{◌≡◌, ℕ, ◌<◌, ◌≤◌, length, take, All, slice_get, Some}
use Rattle.whole_rows.specs.Duals.{AreGood, IsFirstFailing}
use Rattle.whole_rows.specs.Rows.{RowsData}
use Rattle.whole_rows.specs.declared.DualVerdict.{DualVerdict}
use Rattle.whole_rows.specs.declared.DualVerdict.TheVariants as duals
use Rattle.split_trees.specs.declared.verdict.TreeVerdict.{TreeVerdict}
use Rattle.split_trees.specs.declared.verdict.TreeVerdict.TheVariants as verdicts
use Rattle.split_trees.specs.Sides.{split_rows}
use Rattle.split_trees.specs.Tree.{Tree, LeafAt, columns_cut, leaves_of}

abbrev pub IsColumn : RowsData → ℕ → Type 0
IsColumn rows column = column < length rows.costs

abbrev pub IsGoodLeaf : RowsData → ℕ → LeafAt → Type 0
IsGoodLeaf rows bound leaf = AreGood (split_rows rows leaf.sides) leaf.multipliers leaf.denominator bound

pub record IsGoodTree (rows : RowsData) (bound : ℕ) (tree : Tree) : Type 0 where
  pub columns : All (IsColumn rows) (columns_cut tree)
  pub leaves : All (IsGoodLeaf rows bound) (leaves_of tree)

-- ---- The first condition that fails

-- the first column that is cut and isn't there
pub record LacksColumn (rows : RowsData) (tree : Tree) (column : ℕ) : Type 0 where
  pub place : ℕ
  pub there : slice_get (columns_cut tree) place ≡ Some column
  pub lacks : length rows.costs ≤ column
  pub first : All (IsColumn rows) (take place (columns_cut tree))

-- the first leaf whose multipliers aren't good, by its number from 0, and the first that fails of these
pub record HasBadLeaf (rows : RowsData) (bound : ℕ) (tree : Tree) (number : ℕ) (why : DualVerdict) : Type 0 where
  pub columns : All (IsColumn rows) (columns_cut tree)
  pub leaf : LeafAt
  pub there : slice_get (leaves_of tree) number ≡ Some leaf
  pub fails : IsFirstFailing (split_rows rows leaf.sides) leaf.multipliers leaf.denominator bound why
  pub first : All (IsGoodLeaf rows bound) (take number (leaves_of tree))

abbrev pub FailsByLeaf : RowsData → ℕ → Tree → ℕ → DualVerdict → Type 0
FailsByLeaf rows bound tree leaf duals.Yes = ⊥
FailsByLeaf rows bound tree leaf (duals.Count given wanted) = HasBadLeaf rows bound tree leaf (duals.Count given wanted)
FailsByLeaf rows bound tree leaf (duals.Column column) = HasBadLeaf rows bound tree leaf (duals.Column column)
FailsByLeaf rows bound tree leaf duals.Bound = HasBadLeaf rows bound tree leaf duals.Bound

abbrev pub IsTreeVerdict : RowsData → ℕ → Tree → TreeVerdict → Type 0
IsTreeVerdict rows bound tree verdicts.Yes = IsGoodTree rows bound tree
IsTreeVerdict rows bound tree (verdicts.Cut column) = LacksColumn rows tree column
IsTreeVerdict rows bound tree (verdicts.Leaf leaf why) = FailsByLeaf rows bound tree leaf why
