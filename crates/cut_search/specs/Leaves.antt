-- The leaf that a node would be: the sides of the cuts above it, and its multipliers by those of the node's rows.
use Rattle.std.specs.Prelude.{◌≡◌, ℕ, ◌+◌, ◌-◌, ◌==◌, cond, List, [], ◌∷◌, ◌++◌, length, map, take, drop, get_or, replicate, Option, Some, None, refl}
use Rattle.std.specs.List.{range_with_len}
use Rattle.whole_rows.specs.Rows.{RowsData}
use Rattle.split_trees.specs.declared.side.Side.{Side}
use Rattle.split_trees.specs.declared.side.Side.TheVariants.{AtMost, Above}
use Rattle.cut_search.specs.declared.limits.Limits.{Limits}

-- ---- Sides

-- a column with this lower limit was cut at each number below it, and its high side was taken
abbrev pub high_sides : ℕ → ℕ → List Side
high_sides column low = map (Above column) (range_with_len 0 low)

-- one with an upper limit was cut there, and its low side was taken
abbrev pub low_sides : ℕ → Option ℕ → List Side
low_sides column None = []
low_sides column (Some high) = AtMost column high ∷ []

-- from the root on: columns are cut one after the other
abbrev pub sides_of : List Limits → List Side
sides_of [] = []
sides_of (l ∷ limits) = high_sides l.column l.low ++ low_sides l.column l.high ++ sides_of limits

-- ---- Multipliers

-- how many rows of the node say a column's upper limit
abbrev pub upper_count : Option ℕ → ℕ
upper_count None = 0
upper_count (Some high) = 1

-- how many say its lower limit
abbrev pub lower_count : ℕ → ℕ
lower_count low = cond (low == 0) 0 2

-- and how many say both
abbrev pub row_count : Limits → ℕ
row_count l = upper_count l.high + lower_count l.low

-- of the high sides of a column the last one alone has a multiplier: that of the row that joins its further column to it
abbrev pub high_multipliers : ℕ → ℕ → List ℕ
high_multipliers low multiplier = cond (low == 0) [] (replicate (low - 1) 0 ++ multiplier ∷ [])

-- its low side has that of its upper limit
abbrev pub low_multipliers : Option ℕ → ℕ → List ℕ
low_multipliers None multiplier = []
low_multipliers (Some high) multiplier = multiplier ∷ []

-- those of all sides, by those of the rows that say the limits
abbrev pub side_multipliers : List Limits → List ℕ → List ℕ
side_multipliers [] multipliers = []
side_multipliers (l ∷ limits) multipliers =
    high_multipliers l.low (get_or multipliers (upper_count l.high + 1) 0)
    ++ low_multipliers l.high (get_or multipliers 0 0)
    ++ side_multipliers limits (drop (row_count l) multipliers)

-- one for each given row, then one for each side
abbrev pub leaf_multipliers : RowsData → List Limits → List ℕ → List ℕ
leaf_multipliers d limits multipliers = take (length d.rows) multipliers ++ side_multipliers limits (drop (length d.rows) multipliers)

-- ---- Worked: column 4 is 2, and column 6 is at least 1

abbrev two_columns : List Limits
two_columns = record { column = 4; low = 2; high = Some 2 } ∷ record { column = 6; low = 1; high = None } ∷ []

sides_case : sides_of two_columns ≡ Above 4 0 ∷ Above 4 1 ∷ AtMost 4 2 ∷ Above 6 0 ∷ []
sides_case = refl

multipliers_case : side_multipliers two_columns (5 ∷ 6 ∷ 7 ∷ 8 ∷ 9 ∷ []) ≡ 0 ∷ 7 ∷ 5 ∷ 9 ∷ []
multipliers_case = refl
