-- What the test of a tree forms: sums over the sides of cuts, and what it has found so far.
use Rattle.std.specs.Prelude.{ℕ, suc, ◌^◌, ◌<◌, List, [], ◌∷◌, if◌then◌else◌, nat_lt, Option, Some, None, ℤ}
use Rattle.whole_rows.specs.Duals.{first_failing_of}
use Rattle.whole_rows.specs.Rows.{RowsData}
use Rattle.whole_rows.specs.Terms.{entry_of}
use Rattle.whole_rows.specs.declared.DualVerdict.{DualVerdict}
use Rattle.whole_rows.specs.declared.DualVerdict.TheVariants.{Yes, Count, Column, Bound}
use Rattle.split_trees.specs.declared.judging.Found.{Found}
use Rattle.split_trees.specs.declared.judging.Found.TheVariants.{Next, Bad}
use Rattle.split_trees.specs.declared.side.Side.{Side}
use Rattle.split_trees.specs.declared.side.Side.TheVariants.{AtMost, Above}
use Rattle.split_trees.specs.Sides.{term_of, split_rows}
use Rattle.split_trees.specs.Tree.{LeafAt}

-- the entry of a side's row at a column that is there
abbrev pub entry_at : ℕ → Side → ℤ
entry_at column side = entry_of (term_of side ∷ []) column

abbrev pub IsSmallSide : Side → Type 0
IsSmallSide (AtMost column k) = k < 2 ^ 31
IsSmallSide (Above column k) = k < 2 ^ 31

-- the first that isn't below the count
abbrev pub first_from : ℕ → List ℕ → Option ℕ
first_from count [] = None
first_from count (column ∷ columns) = if nat_lt column count then first_from count columns else Some column

-- the number of the leaf after these, or the first of them that isn't good; the first has this number
abbrev pub found_at : ℕ → DualVerdict → Found → Found
found_at number Yes rest = rest
found_at number (Count given wanted) rest = Bad number (Count given wanted)
found_at number (Column column) rest = Bad number (Column column)
found_at number Bound rest = Bad number Bound

abbrev pub found_in : RowsData → ℕ → ℕ → List LeafAt → Found
found_in rows bound number [] = Next number
found_in rows bound number (leaf ∷ leaves) =
    found_at number (first_failing_of (split_rows rows leaf.sides) leaf.multipliers leaf.denominator bound) (found_in rows bound (suc number) leaves)
