-- Terms: the entries of a row that aren't 0, each with its column.
use Rattle.std.specs.Prelude.{◌≡◌, ◌≢◌, ℕ, ◌<◌, ◌==◌, cond, List, [], ◌∷◌, map, length, ℤ, pos, negsuc, All, refl}
use Rattle.std.specs.List.{AllAdjacentBelow, range_with_len}
use Rattle.whole_rows.specs.Row.{IsInRange}
use Rattle.whole_rows.specs.declared.Term.{Term}

-- the entry at a column, 0 where no term names the column
abbrev pub entry_of : List Term → ℕ → ℤ
entry_of [] column = pos 0
entry_of (term ∷ terms) column = cond (term.column == column) term.entry (entry_of terms column)

-- the row over that many columns which has the terms' entries and 0 at every other column
abbrev pub row_of_terms : ℕ → List Term → List ℤ
row_of_terms columns terms = map (entry_of terms) (range_with_len 0 columns)

-- a term of a row over that many columns: its column exists, and its entry isn't 0 and is in range
pub record IsTerm (columns : ℕ) (term : Term) : Type 0 where
  pub within : term.column < columns
  pub not_zero : term.entry ≢ pos 0
  pub in_range : IsInRange term.entry

-- the terms of a row over that many columns: their columns rise
pub record AreTerms (columns : ℕ) (terms : List Term) : Type 0 where
  pub rising : AllAdjacentBelow (λ before after. before.column < after.column) terms (length terms)
  pub each : All (IsTerm columns) terms

dense_case : row_of_terms 4 (record { column = 1; entry = pos 7 } ∷ record { column = 3; entry = negsuc 1 } ∷ []) ≡ pos 0 ∷ pos 7 ∷ pos 0 ∷ negsuc 1 ∷ []
dense_case = refl
