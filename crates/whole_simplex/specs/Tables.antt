-- The tables of the simplex method over rows of whole numbers, and the pivot that leads from one table to the next.
use Rattle.std.specs.Prelude.{◌≡◌, ◌≢◌, ℕ, zero, suc, ◌+◌, ◌==◌, ◌&&◌, ◌||◌, Bool, cond, List, [], ◌∷◌, ◌++◌, map, length, get_or, take, replicate, ℤ, pos, negsuc, neg_ℤ, ◌-ℤ◌, ◌*ℤ◌, int_lt, int_le, nat_lt, Option, Some, None, refl}
use Rattle.whole_rows.specs.Row.{gcd_within, primitive_of, first_negative_of, is_zero}
use Rattle.whole_rows.specs.Rows.{RowsData}
use Rattle.whole_simplex.specs.declared.line.Line.{Line}

-- a line for each row, which has the row's basic column and its entries, and the objective row.
-- The places of a row are the columns, then a slack for each row, then the objective, then the right side
pub record Table : Type 0 where
  pub lines : List Line
  pub objective : List ℤ

-- how many places the columns and the slacks take: the objective stands at that place, the right side behind it
abbrev pub width : RowsData → ℕ
width d = length d.costs + length d.rows

abbrev pub entry : List ℤ → ℕ → ℤ
entry row place = get_or row place (pos 0)

-- no line has that basic column
abbrev pub IsFree : ℕ → List Line → Type 0
IsFree basic [] = Unit {0}
IsFree basic (line ∷ lines) = (line.basic ≢ basic) × IsFree basic lines

-- no two lines share a basic column
abbrev pub AreDistinct : List Line → Type 0
AreDistinct [] = Unit {0}
AreDistinct (line ∷ lines) = IsFree line.basic lines × AreDistinct lines

-- ---- table 0

-- 1 at one place, and 0 at every other one
abbrev pub unit_row : ℕ → ℕ → List ℤ
unit_row zero place = []
unit_row (suc places) zero = pos 1 ∷ replicate places (pos 0)
unit_row (suc places) (suc place) = pos 0 ∷ unit_row places place

abbrev pub first_line : RowsData → ℕ → List ℤ → ℤ → Line
first_line d number row right =
    record { basic = length d.costs + number; entries = row ++ unit_row (length d.rows) number ++ pos 0 ∷ right ∷ [] }

-- the lines of rows and right sides, where the first one has that number among the rows
abbrev pub lines_from : RowsData → ℕ → List (List ℤ) → List ℤ → List Line
lines_from d number [] rights = []
lines_from d number (row ∷ rows) [] = []
lines_from d number (row ∷ rows) (right ∷ rights) = first_line d number row right ∷ lines_from d (suc number) rows rights

abbrev pub first_objective : RowsData → List ℤ
first_objective d = map neg_ℤ d.costs ++ replicate (length d.rows) (pos 0) ++ pos 1 ∷ pos 0 ∷ []

-- row i has the entries of the rows, 1 at its own slack, 0 for the objective, and its right side, and its slack is basic;
-- the objective row has the negated costs, zeros, 1 and 0
abbrev pub first_table : RowsData → Table
first_table d = record { lines = lines_from d 0 d.rows d.rights; objective = first_objective d }

-- ---- the pivot rule

-- the first place among columns and slacks where the objective row is negative
abbrev pub entering : ℕ → List ℤ → Option ℕ
entering width objective = first_negative_of (take width objective)

-- the ratio of right side to entry is less than that of another line, or they are equal and the basic column is less:
-- both entries are above 0, and the ratios are compared by the two cross products
abbrev pub comes_before : ℕ → ℕ → Line → Line → Bool
comes_before width place line other =
    let mine = entry line.entries (width + 1) *ℤ entry other.entries place in
    let its = entry other.entries (width + 1) *ℤ entry line.entries place in
    int_lt mine its || (int_le mine its && nat_lt line.basic other.basic)

abbrev pub lesser : ℕ → ℕ → Option Line → Line → Line
lesser width place None line = line
lesser width place (Some best) line = cond (comes_before width place line best) line best

-- the least line so far, once a further line is seen
abbrev pub lesser_of : ℕ → ℕ → Option Line → Line → Option Line
lesser_of width place best line = cond (int_lt (pos 0) (entry line.entries place)) (Some (lesser width place best line)) best

-- the least of `best` and of the lines whose entry at the entering place is above 0, if there is one: the leaving line
abbrev pub least_line : ℕ → ℕ → Option Line → List Line → Option Line
least_line width place best [] = best
least_line width place best (line ∷ lines) = least_line width place (lesser_of width place best line) lines

abbrev pub leaving : ℕ → ℕ → List Line → Option Line
leaving width place lines = least_line width place None lines

-- ---- the pivot

-- at each place `p` times the row's entry less `a` times the other row's
abbrev pub combined : ℤ → List ℤ → ℤ → List ℤ → List ℤ
combined p [] a other = []
combined p (x ∷ row) a [] = []
combined p (x ∷ row) a (y ∷ other) = (p *ℤ x -ℤ a *ℤ y) ∷ combined p row a other

-- a row after the pivot: 0 at the entering place, and primitive; a row that is 0 there already stays
abbrev pub eliminated : ℕ → List ℤ → List ℤ → List ℤ
eliminated place pivot row =
    cond (is_zero (entry row place)) row (primitive_of (combined (entry pivot place) row (entry row place) pivot))

-- the leaving line keeps its entries, and its basic column is the entering place; every other line is eliminated
abbrev pub pivoted_line : ℕ → Line → Line → Line
pivoted_line place pivot line =
    cond (line.basic == pivot.basic)
    (record { basic = place; entries = line.entries })
    (record { basic = line.basic; entries = eliminated place pivot.entries line.entries })

abbrev pub pivoted : ℕ → Line → Table → Table
pivoted place pivot table =
    record { lines = map (pivoted_line place pivot) table.lines; objective = eliminated place pivot.entries table.objective }

-- ---- the tables

abbrev pub after_leaving : ℕ → Table → Option Line → Table
after_leaving place table None = table
after_leaving place table (Some pivot) = pivoted place pivot table

abbrev pub after_entering : ℕ → Table → Option ℕ → Table
after_entering width table None = table
after_entering width table (Some place) = after_leaving place table (leaving width place table.lines)

-- the next table; a table with no entering place or no leaving line stays
abbrev pub next_table : ℕ → Table → Table
next_table width table = after_entering width table (entering width table.objective)

-- the table after that many pivots
abbrev pub table_at : RowsData → ℕ → Table
table_at d zero = first_table d
table_at d (suc number) = next_table (width d) (table_at d number)

-- ---- a worked case: maximise 3 x + 2 y where x + y <= 4 and x - y <= 2. The optimum is x = 3 and y = 1 with value 11

abbrev pub example : RowsData
example = record { costs = pos 3 ∷ pos 2 ∷ []; rows = (pos 1 ∷ pos 1 ∷ []) ∷ (pos 1 ∷ negsuc 0 ∷ []) ∷ []; rights = pos 4 ∷ pos 2 ∷ [] }

second_objective : (table_at example 1).objective ≡ pos 0 ∷ negsuc 4 ∷ pos 0 ∷ pos 3 ∷ pos 1 ∷ pos 6 ∷ []
unfolding gcd_within
second_objective = refl

last_objective : (table_at example 2).objective ≡ pos 0 ∷ pos 0 ∷ pos 5 ∷ pos 1 ∷ pos 2 ∷ pos 22 ∷ []
unfolding gcd_within
last_objective = refl
