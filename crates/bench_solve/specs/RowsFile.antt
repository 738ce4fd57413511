-- The rows that a JSON value is, as `{"costs": [..], "rows": [{"terms": [[COLUMN, ENTRY], ..], "right": NUMBER}, ..]}`.
-- Members under other keys may stand beside these.
use Rattle.std.specs.Prelude.{ℕ, List, [], ◌∷◌, length, fold, Bool, true, ◌&&◌, nat_lt, int_lt, if◌then◌else◌, Option, Some, None, option_and_then, option_map, ok_or, Result, Ok, Err, ℤ, pos, negsuc, codes, ◌≡◌, refl}
use Rattle.serde_json.specs.Data.{Data, number, unsigned, negative, array, object, no_members, member}
use Rattle.serde_json.specs.Find.{get, as_number, as_i64, as_u64}
use Rattle.serde_json.specs.View.{items_of}
use Rattle.listed.specs.Lists.{all_of}
use Rattle.listed.specs.Steps.{◌>>=◌}
use Rattle.json_fields.specs.Lists.{list_in}
use Rattle.json_fields.specs.Objects.{list_at}
use Rattle.whole_rows.specs.Row.{is_zero}
use Rattle.whole_rows.specs.Rows.{RowsData, with_row}
use Rattle.whole_rows.specs.declared.Term.{Term}
use Rattle.bench_solve.specs.declared.file.FileRow.{FileRow}
use Rattle.bench_solve.specs.declared.file.RowsKind.{RowsKind}
use Rattle.bench_solve.specs.declared.file.RowsKind.TheVariants.{Shape}

-- ---- numbers and lists

-- a whole number that fits 64 bits with a sign; 1.0 and -0 are none
abbrev pub integer_in : Data → Option ℤ
integer_in d = option_and_then as_i64 (as_number d)

-- such a number that isn't 0
abbrev pub entry_in : Data → Option ℤ
entry_in d = option_and_then (λ z. if is_zero z then None else Some z) (integer_in d)

-- such a number under `right` that isn't negative
abbrev pub right_at : Data → Option ℤ
right_at d = option_and_then (λ z. if int_lt z (pos 0) then None else Some z) (option_and_then integer_in (get (codes "right") d))

-- a whole number below the number of columns
abbrev pub column_in : ℕ → Data → Option ℕ
column_in columns d = option_and_then (λ n. if nat_lt n columns then Some n else None) (option_and_then as_u64 (as_number d))

-- ---- rows

-- a pair of a column and an entry
unfoldable pub term_of : ℕ → List Data → Option Term
term_of columns (first ∷ second ∷ []) =
    option_and_then (λ column. option_map (λ entry. record { column = column; entry = entry }) (entry_in second)) (column_in columns first)
term_of columns _ = None

abbrev pub term_in : ℕ → Data → Option Term
term_in columns d = option_and_then (term_of columns) (list_in d)

abbrev pub term_at : ℕ → Data → Result Term RowsKind
term_at columns d = ok_or (term_in columns d) Shape

-- the first of the terms, where there is one, lies above the column
abbrev pub is_below : ℕ → List Term → Bool
is_below column [] = true
is_below column (next ∷ terms) = nat_lt column next.column

-- each column lies below the next one
abbrev pub columns_rise : List Term → Bool
columns_rise [] = true
columns_rise (term ∷ terms) = is_below term.column terms && columns_rise terms

-- terms whose columns rise
unfoldable pub terms_of : ℕ → List Data → Result (List Term) RowsKind
terms_of columns ds = do
  terms ← all_of (term_at columns) ds
  if columns_rise terms then Ok terms else Err Shape

-- a row over that many columns
unfoldable pub row_in : ℕ → Data → Result FileRow RowsKind
row_in columns d = do
  members ← ok_or (list_at (codes "terms") d) Shape
  terms ← terms_of columns members
  right ← ok_or (right_at d) Shape
  Ok (record { terms = terms; right = right })

-- the rows with these ones behind them, in order
abbrev pub with_rows : RowsData → List FileRow → RowsData
with_rows before rows = fold (λ rows row. with_row rows row.terms row.right) before rows

-- the same, where those are given
abbrev pub rows_behind : RowsData → Result (List FileRow) RowsKind → Result RowsData RowsKind
rows_behind before given = given >>= λ rows. Ok (with_rows before rows)

-- the costs, one for each column, and no row
abbrev pub only_costs : List ℤ → RowsData
only_costs costs = record { costs = costs; rows = []; rights = [] }

abbrev pub cost_in : Data → Result ℤ RowsKind
cost_in d = ok_or (integer_in d) Shape

-- the rows that the value is, where it is some
unfoldable pub rows_in : Data → Result RowsData RowsKind
rows_in d = do
  members ← ok_or (list_at (codes "costs") d) Shape
  costs ← all_of cost_in members
  others ← ok_or (list_at (codes "rows") d) Shape
  rows_behind (only_costs costs) (all_of (row_in (length costs)) others)

-- ---- worked cases: maximise 3 x + 2 y where x - y <= 4

whole : ℤ → Data
whole (pos n) = number (unsigned n)
whole (negsuc n) = number (negative (negsuc n))

list : List Data → Data
list ds = array (items_of ds)

pair : ℕ → ℤ → Data
pair column entry = list (whole (pos column) ∷ whole entry ∷ [])

-- the members of an object stand in the order of their keys
file : List Data → Data
file terms = object (member (codes "costs") (list (whole (pos 3) ∷ whole (pos 2) ∷ []))
    (member (codes "rows") (list (object (member (codes "right") (whole (pos 4)) (member (codes "terms") (list terms) no_members)) ∷ [])) no_members))

one_row : rows_in (file (pair 0 (pos 1) ∷ pair 1 (negsuc 0) ∷ [])) ≡ Ok (record { costs = pos 3 ∷ pos 2 ∷ []; rows = (pos 1 ∷ negsuc 0 ∷ []) ∷ []; rights = pos 4 ∷ [] })
unfolding rows_in row_in terms_of term_of whole list pair file
one_row = refl

-- a column without a term has the entry 0
one_term : rows_in (file (pair 1 (pos 5) ∷ [])) ≡ Ok (record { costs = pos 3 ∷ pos 2 ∷ []; rows = (pos 0 ∷ pos 5 ∷ []) ∷ []; rights = pos 4 ∷ [] })
unfolding rows_in row_in terms_of term_of whole list pair file
one_term = refl

columns_fall : rows_in (file (pair 1 (negsuc 0) ∷ pair 0 (pos 1) ∷ [])) ≡ Err Shape
unfolding rows_in row_in terms_of term_of whole list pair file
columns_fall = refl

no_third_column : rows_in (file (pair 2 (pos 1) ∷ [])) ≡ Err Shape
unfolding rows_in row_in terms_of term_of whole list pair file
no_third_column = refl

entry_of_zero : rows_in (file (pair 0 (pos 0) ∷ [])) ≡ Err Shape
unfolding rows_in row_in terms_of term_of whole list pair file
entry_of_zero = refl
