-- Rows that are added by their terms.
use Rattle.std.specs.Prelude.{◌≡◌, ℕ, ◌+◌, cond, List, [], ◌∷◌, ◌++◌, length, map, ℤ, pos}
use Rattle.whole_rows.specs.Row.{is_zero}
use Rattle.whole_rows.specs.Rows.{RowsData}
use Rattle.whole_rows.specs.Terms.{AreTerms, row_of_terms}
use Rattle.whole_rows.specs.declared.Term.{Term}
use Rattle.row_build.specs.Columns.{Column}
use Rattle.row_build.specs.Families.{Row}

-- the entries that aren't 0, each with its column, of which the first has this number
abbrev pub terms_from : ℕ → List ℤ → List Term
terms_from column [] = []
terms_from column (x ∷ xs) = cond (is_zero x) (terms_from (column + 1) xs) (record { column = column; entry = x } ∷ terms_from (column + 1) xs)

-- the terms are those of a row with these entries
pub record AreOf (entries : List ℤ) (terms : List Term) : Type 0 where
  pub dense : row_of_terms (length entries) terms ≡ entries
  pub are : AreTerms (length entries) terms

abbrev pub entries_of : Row → List Column → List ℤ
entries_of row columns = map row.factor columns

-- with these rows at the end
abbrev pub with_rows : List Column → RowsData → List Row → RowsData
with_rows columns d rows = record {
  costs = d.costs;
  rows = d.rows ++ map (λ row. entries_of row columns) rows;
  rights = d.rights ++ map (λ row. pos row.right) rows;
}
