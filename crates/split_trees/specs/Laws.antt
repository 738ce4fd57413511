-- What good trees of cuts mean.
use Rattle.std.specs.Prelude.{◌≡◌, ℕ, List, length, pos, ◌≤ℤ◌}
use Rattle.whole_rows.specs.Greatest.{MeetsRows}
use Rattle.whole_rows.specs.Rows.{RowsData, IsShaped, cost_of}
use Rattle.split_trees.specs.Good.{IsGoodTree}
use Rattle.split_trees.specs.Tree.{Tree}

-- A good tree bounds the cost of whole numbers that meet the rows: at each cut they are on one side.
abbrev pub GoodTreesBound : Type 0
GoodTreesBound = (rows : RowsData) (bound : ℕ) (tree : Tree) → IsShaped rows → IsGoodTree rows bound tree
    → (u : List ℕ) → length u ≡ length rows.costs → MeetsRows rows u → cost_of rows u ≤ℤ pos bound
