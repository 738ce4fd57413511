-- How rows are kept: for each column the entries that aren't 0, each with its row, in order of rows.
use Rattle.std.specs.Prelude.{◌≡◌, ◌≢◌, ℕ, ◌<◌, ◌==◌, cond, List, [], ◌∷◌, ◌++◌, map, length, slice_set, slice_index, slice_index_or, fold, ℤ, pos, ◌+ℤ◌, ◌*ℤ◌, ◌≤ℤ◌, All, refl}
use Rattle.std.specs.List.{range_with_len}
use Rattle.whole_rows.specs.Row.{IsInRange, AreInRange}
use Rattle.whole_rows.specs.Rows.{RowsData}
use Rattle.whole_rows.specs.declared.Term.{Term}
use Rattle.whole_rows.specs.declared.RowTerm.{RowTerm}

-- the entry at a row, 0 where no term names the row
abbrev pub entry_in : List RowTerm → ℕ → ℤ
entry_in [] row = pos 0
entry_in (term ∷ terms) row = cond (term.row == row) term.entry (entry_in terms row)

-- each row is below those that follow
abbrev pub RowsRise : List RowTerm → Type 0
RowsRise [] = Unit {0}
RowsRise (term ∷ terms) = All (λ later. term.row < later.row) terms × RowsRise terms

-- a term of a column over that many rows
pub record IsRowTerm (rows : ℕ) (term : RowTerm) : Type 0 where
  pub within : term.row < rows
  pub not_zero : term.entry ≢ pos 0
  pub in_range : IsInRange term.entry

-- the terms of a column over that many rows
pub record IsColumn (rows : ℕ) (terms : List RowTerm) : Type 0 where
  pub rising : RowsRise terms
  pub each : All (IsRowTerm rows) terms

-- the entries of one row
abbrev pub row_in : List (List RowTerm) → ℕ → List ℤ
row_in columns row = map (λ terms. entry_in terms row) columns

-- the rows that are kept so
abbrev pub rows_kept : List ℤ → List (List RowTerm) → List ℤ → RowsData
rows_kept costs columns rights = record { costs = costs; rows = map (row_in columns) (range_with_len 0 (length rights)); rights = rights }

-- what the parts of `Rows` keep
pub record IsKept (costs : List ℤ) (columns : List (List RowTerm)) (rights : List ℤ) : Type 0 where
  pub columns_fit : length columns ≡ length costs
  pub costs_in_range : AreInRange costs
  pub each_column : All (IsColumn (length rights)) columns
  pub rights_in_range : AreInRange rights
  pub rights_not_negative : All (λ right. pos 0 ≤ℤ right) rights

-- the columns with one more term at the end of one of them
abbrev pub with_term : ℕ → List (List RowTerm) → Term → List (List RowTerm)
with_term row columns term =
    slice_set columns term.column (slice_index_or columns term.column [] ++ record { row = row; entry = term.entry } ∷ [])

-- and with the terms of one more row
abbrev pub with_terms : ℕ → List (List RowTerm) → List Term → List (List RowTerm)
with_terms row columns terms = fold (with_term row) columns terms

-- the sum of entry times the multiplier of its row
abbrev pub terms_sum : List RowTerm → List ℕ → ℤ
terms_sum [] multipliers = pos 0
terms_sum (term ∷ terms) multipliers = term.entry *ℤ pos (slice_index multipliers term.row) +ℤ terms_sum terms multipliers

kept_case : rows_kept (pos 5 ∷ pos 6 ∷ []) ([] ∷ (record { row = 1; entry = pos 3 } ∷ []) ∷ []) (pos 7 ∷ pos 8 ∷ []) ≡ record { costs = pos 5 ∷ pos 6 ∷ []; rows = (pos 0 ∷ pos 0 ∷ []) ∷ (pos 0 ∷ pos 3 ∷ []) ∷ []; rights = pos 7 ∷ pos 8 ∷ [] }
kept_case = refl
