-- The rows of a node of the search: the given rows, with what the cuts on the way to the node say of the columns that may be
-- cut. No right side is negative. A lower limit is said by a further column of great cost: it is at most the limit, and the
-- column that was cut is at least as much.
use Rattle.std.specs.Prelude.{◌≡◌, ℕ, ◌+◌, ◌==◌, cond, List, [], ◌∷◌, ◌++◌, map, length, replicate, ℤ, pos, negsuc, Option, Some, None, refl}
use Rattle.whole_rows.specs.Rows.{RowsData, sample}
use Rattle.whole_rows.specs.Terms.{row_of_terms}
use Rattle.whole_rows.specs.declared.Term.{Term}
use Rattle.cut_search.specs.declared.limits.Limits.{Limits}

-- what a further column costs
abbrev pub further_cost : ℤ
further_cost = pos 1048576

-- how many columns have a lower limit above 0; each has a further column
abbrev pub further_count : List Limits → ℕ
further_count [] = 0
further_count (l ∷ limits) = cond (l.low == 0) 0 1 + further_count limits

-- a row by its terms, and its right side
pub record LimitRow : Type 0 where
  pub terms : List Term
  pub right : ℕ

-- the column is at most its upper limit
abbrev pub upper_rows : ℕ → Option ℕ → List LimitRow
upper_rows column None = []
upper_rows column (Some high) = record { terms = record { column = column; entry = pos 1 } ∷ []; right = high } ∷ []

-- the further column is at most the lower limit, and at most the column
abbrev pub lower_rows : ℕ → ℕ → ℕ → List LimitRow
lower_rows further column low =
    record { terms = record { column = further; entry = pos 1 } ∷ []; right = low }
    ∷ record { terms = record { column = column; entry = negsuc 0 } ∷ record { column = further; entry = pos 1 } ∷ []; right = 0 }
    ∷ []

-- for each column in order what its limits say; the next further column has this number
abbrev pub limit_rows : ℕ → List Limits → List LimitRow
limit_rows further [] = []
limit_rows further (l ∷ limits) =
    upper_rows l.column l.high
    ++ cond (l.low == 0) (limit_rows further limits) (lower_rows further l.column l.low ++ limit_rows (further + 1) limits)

-- with so many further columns at the end, of which no row speaks
abbrev pub widened : RowsData → ℕ → RowsData
widened d count = record {
  costs = d.costs ++ replicate count further_cost;
  rows = map (λ row. row ++ replicate count (pos 0)) d.rows;
  rights = d.rights;
}

-- with these rows at the end
abbrev pub with_limit_rows : RowsData → List LimitRow → RowsData
with_limit_rows d more = record {
  costs = d.costs;
  rows = d.rows ++ map (λ row. row_of_terms (length d.costs) row.terms) more;
  rights = d.rights ++ map (λ row. pos row.right) more;
}

abbrev pub node_rows : RowsData → List Limits → RowsData
node_rows d limits = with_limit_rows (widened d (further_count limits)) (limit_rows (length d.costs) limits)

-- ---- Worked: the first column of the sample is at least 1, and the second one is 2

limits_case : node_rows sample (record { column = 0; low = 1; high = None } ∷ record { column = 1; low = 2; high = Some 2 } ∷ []) ≡ record {
  costs = pos 3 ∷ pos 2 ∷ pos 1048576 ∷ pos 1048576 ∷ [];
  rows =
      (pos 1 ∷ pos 1 ∷ pos 0 ∷ pos 0 ∷ [])
      ∷ (pos 1 ∷ negsuc 0 ∷ pos 0 ∷ pos 0 ∷ [])
      ∷ (pos 0 ∷ pos 0 ∷ pos 1 ∷ pos 0 ∷ [])
      ∷ (negsuc 0 ∷ pos 0 ∷ pos 1 ∷ pos 0 ∷ [])
      ∷ (pos 0 ∷ pos 1 ∷ pos 0 ∷ pos 0 ∷ [])
      ∷ (pos 0 ∷ pos 0 ∷ pos 0 ∷ pos 1 ∷ [])
      ∷ (pos 0 ∷ negsuc 0 ∷ pos 0 ∷ pos 1 ∷ [])
      ∷ [];
  rights = pos 4 ∷ pos 2 ∷ pos 1 ∷ pos 0 ∷ pos 2 ∷ pos 2 ∷ pos 0 ∷ [];
}
limits_case = refl
