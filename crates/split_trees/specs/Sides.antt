-- The sides of cuts as rows: a column is at most k, or its negative at most -(k + 1).
use Rattle.std.specs.Prelude.{ℕ, List, [], ◌∷◌, ◌++◌, map, length, ℤ, pos, negsuc, ◌≡◌, refl}
use Rattle.whole_rows.specs.Rows.{RowsData, sample}
use Rattle.whole_rows.specs.Terms.{row_of_terms}
use Rattle.whole_rows.specs.declared.Term.{Term}
use Rattle.split_trees.specs.declared.side.Side.{Side}
use Rattle.split_trees.specs.declared.side.Side.TheVariants.{AtMost, Above}

abbrev pub term_of : Side → Term
term_of (AtMost column k) = record { column = column; entry = pos 1 }
term_of (Above column k) = record { column = column; entry = negsuc 0 }

abbrev pub right_of : Side → ℤ
right_of (AtMost column k) = pos k
right_of (Above column k) = negsuc k

-- the row of a side, over that many columns
abbrev pub row_of : ℕ → Side → List ℤ
row_of columns side = row_of_terms columns (term_of side ∷ [])

-- the rows, followed by one row for each side
abbrev pub split_rows : RowsData → List Side → RowsData
split_rows d sides = record {
  costs = d.costs;
  rows = d.rows ++ map (row_of (length d.costs)) sides;
  rights = d.rights ++ map right_of sides;
}

-- ---- worked case: over columns x and y, y is at most 2 and x at least 1

its_rows : split_rows sample (AtMost 1 2 ∷ Above 0 0 ∷ []) ≡ record {
  costs = pos 3 ∷ pos 2 ∷ [];
  rows = (pos 1 ∷ pos 1 ∷ []) ∷ (pos 1 ∷ negsuc 0 ∷ []) ∷ (pos 0 ∷ pos 1 ∷ []) ∷ (negsuc 0 ∷ pos 0 ∷ []) ∷ [];
  rights = pos 4 ∷ pos 2 ∷ pos 2 ∷ negsuc 0 ∷ [];
}
its_rows = refl
