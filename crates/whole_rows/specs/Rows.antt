-- Rows with costs: each row has an entry for each column and a right side, and each column has a cost.
use Rattle.std.specs.Prelude.{◌≡◌, ℕ, ◌+◌, cond, List, [], ◌∷◌, ◌++◌, map, length, get_or, ℤ, pos, negsuc, ◌+ℤ◌, ◌*ℤ◌, ◌≤ℤ◌, All, refl}
use Rattle.whole_rows.specs.Row.{AreInRange, is_zero}
use Rattle.whole_rows.specs.Terms.{row_of_terms}
use Rattle.whole_rows.specs.declared.Term.{Term}
use Rattle.whole_rows.specs.declared.RowTerm.{RowTerm}

-- the costs, one for each column; the rows, each as long as the costs; the right sides, one for each row
pub record RowsData : Type 0 where
  pub costs : List ℤ
  pub rows : List (List ℤ)
  pub rights : List ℤ

-- each row is as long as the costs, and there are as many right sides as rows
pub record IsShaped (d : RowsData) : Type 0 where
  pub rows_fit : All (λ row. length row ≡ length d.costs) d.rows
  pub rights_fit : length d.rights ≡ length d.rows

-- what every value of `Rows` keeps: its shape, numbers in range, and no negative right side
pub record AreRows (d : RowsData) : Type 0 where
  pub shape : IsShaped d
  pub costs_in_range : AreInRange d.costs
  pub entries_in_range : All AreInRange d.rows
  pub rights_in_range : AreInRange d.rights
  pub rights_not_negative : All (λ right. pos 0 ≤ℤ right) d.rights

abbrev pub cost_at : RowsData → ℕ → ℤ
cost_at d column = get_or d.costs column (pos 0)

abbrev pub row_at : RowsData → ℕ → List ℤ
row_at d row = get_or d.rows row []

abbrev pub entry_at : RowsData → ℕ → ℕ → ℤ
entry_at d row column = get_or (row_at d row) column (pos 0)

abbrev pub right_at : RowsData → ℕ → ℤ
right_at d row = get_or d.rights row (pos 0)

-- the entries of a column, one for each row
abbrev pub column_of : RowsData → ℕ → List ℤ
column_of d column = map (λ row. get_or row column (pos 0)) d.rows

-- the entries that aren't 0, each with its row, where the first entry stands in row `row`
abbrev pub terms_from : ℕ → List ℤ → List RowTerm
terms_from row [] = []
terms_from row (x ∷ xs) = cond (is_zero x) (terms_from (row + 1) xs) (record { row = row; entry = x } ∷ terms_from (row + 1) xs)

-- the entries of a column that aren't 0, in order of rows
abbrev pub column_terms_of : RowsData → ℕ → List RowTerm
column_terms_of d column = terms_from 0 (column_of d column)

-- the rows with one more row at the end, given by its terms and its right side
abbrev pub with_row : RowsData → List Term → ℤ → RowsData
with_row d terms right = record {
  costs = d.costs;
  rows = d.rows ++ row_of_terms (length d.costs) terms ∷ [];
  rights = d.rights ++ right ∷ [];
}

-- the sum of the products of whole numbers with natural ones, place by place
abbrev pub product_sum : List ℤ → List ℕ → ℤ
product_sum [] ns = pos 0
product_sum (x ∷ xs) [] = pos 0
product_sum (x ∷ xs) (n ∷ ns) = x *ℤ pos n +ℤ product_sum xs ns

-- the left side of a row on numbers, one for each column
abbrev pub left_side : RowsData → ℕ → List ℕ → ℤ
left_side d row u = product_sum (row_at d row) u

-- the cost of numbers, one for each column
abbrev pub cost_of : RowsData → List ℕ → ℤ
cost_of d u = product_sum d.costs u

-- the sum of multiplier times entry over a column
abbrev pub column_sum : RowsData → List ℕ → ℕ → ℤ
column_sum d multipliers column = product_sum (column_of d column) multipliers

-- the sum of multiplier times right side
abbrev pub right_sum : RowsData → List ℕ → ℤ
right_sum d multipliers = product_sum d.rights multipliers

-- ---- worked cases: maximise 3 x + 2 y where x + y <= 4 and x - y <= 2

abbrev pub sample : RowsData
sample = record { costs = pos 3 ∷ pos 2 ∷ []; rows = (pos 1 ∷ pos 1 ∷ []) ∷ (pos 1 ∷ negsuc 0 ∷ []) ∷ []; rights = pos 4 ∷ pos 2 ∷ [] }

cost_case : cost_of sample (3 ∷ 1 ∷ []) ≡ pos 11
cost_case = refl

column_case : column_sum sample (5 ∷ 1 ∷ []) 1 ≡ pos 4
column_case = refl

terms_case : column_terms_of (record { costs = pos 1 ∷ []; rows = (pos 7 ∷ []) ∷ (pos 0 ∷ []) ∷ (negsuc 1 ∷ []) ∷ []; rights = pos 0 ∷ pos 0 ∷ pos 0 ∷ [] }) 0 ≡ record { row = 0; entry = pos 7 } ∷ record { row = 2; entry = negsuc 1 } ∷ []
terms_case = refl
