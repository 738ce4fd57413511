-- What the tables of rows lead to under a limit on the number of pivots, and the answers of `solve` that say so.
use Rattle.std.specs.Prelude.{◌≡◌, ℕ, zero, suc, ◌+◌, ◌*◌, ◌^◌, ◌==◌, Bool, false, not, cond, List, [], ◌∷◌, ◌++◌, length, take, drop, set, replicate, ℤ, pos, neg_ℤ, ◌-ℤ◌, ◌*ℤ◌, ◌≤ℤ◌, int_lt, int_div, nat_lt, Contains, Option, Some, None, Result, Ok, Err, IsTrue, refl}
use Rattle.std.specs.List.{list_any, flat_map}
use Rattle.whole_rows.specs.Row.{gcd_within, gcd_of, primitive_of, is_in_range, is_zero}
use Rattle.whole_rows.specs.Rows.{RowsData}
use Rattle.whole_simplex.specs.Tables.{Table, width, entry, entering, leaving, lesser_of, table_at, example}
use Rattle.whole_simplex.specs.declared.line.Line.{Line}
use Rattle.whole_simplex.specs.declared.Optimum.{Optimum}
use Rattle.whole_simplex.specs.declared.SolveFault.{SolveFault}
use Rattle.whole_simplex.specs.declared.SolveFault.TheVariants.{Entries, Pivots, Unbounded, Wide, Multiplier, Memory}

-- ---- pairs of numbers, judged by the result that they lead to

pub data Pair : Type 0 where
  Product : ℤ → ℤ → Pair
  Difference : ℤ → ℤ → Pair
  Multiple : ℤ → ℤ → Pair

-- the least common multiple of two numbers above 0
abbrev pub multiple_of : ℤ → ℤ → ℤ
multiple_of a b = a *ℤ int_div b (pos (gcd_of a b))

-- multipliers, denominators and least common multiples stay below 2^80
abbrev pub is_large : ℤ → Bool
is_large value = not (int_lt value (pos (2 ^ 80)))

-- a product or a difference leaves the range of an entry, and a least common multiple reaches 2^80
abbrev pub is_wide : Pair → Bool
is_wide (Product a b) = not (is_in_range (a *ℤ b))
is_wide (Difference a b) = not (is_in_range (a -ℤ b))
is_wide (Multiple a b) = is_large (multiple_of a b)

abbrev pub numbers : Pair → ℤ × ℤ
numbers (Product a b) = (a, b)
numbers (Difference a b) = (a, b)
numbers (Multiple a b) = (a, b)

-- no pair is wide
abbrev pub AreNarrow : List Pair → Type 0
AreNarrow pairs = list_any is_wide pairs ≡ false

-- the two numbers are those of a wide pair
abbrev pub HasWide : List Pair → ℤ → ℤ → Type 0
HasWide pairs a b = (pair : Pair) × Contains pairs pair × (numbers pair ≡ (a, b)) × IsTrue (is_wide pair)

-- ---- the pairs that lead to the next table

-- the factors of the two cross products that compare the ratios of two lines
abbrev pub cross_pairs : ℕ → ℕ → Line → Line → List Pair
cross_pairs width place line best =
    Product (entry line.entries (width + 1)) (entry best.entries place)
    ∷ Product (entry best.entries (width + 1)) (entry line.entries place)
    ∷ []

-- those that compare a line with the least line before it
abbrev pub ratio_pairs : ℕ → ℕ → Option Line → Line → List Pair
ratio_pairs width place None line = []
ratio_pairs width place (Some best) line =
    cond (int_lt (pos 0) (entry line.entries place)) (cross_pairs width place line best) []

abbrev pub leaving_pairs : ℕ → ℕ → Option Line → List Line → List Pair
leaving_pairs width place best [] = []
leaving_pairs width place best (line ∷ lines) =
    ratio_pairs width place best line ++ leaving_pairs width place (lesser_of width place best line) lines

-- at each place the factors of the two products, and the two products
abbrev pub combination_pairs : ℤ → List ℤ → ℤ → List ℤ → List Pair
combination_pairs p [] a other = []
combination_pairs p (x ∷ row) a [] = []
combination_pairs p (x ∷ row) a (y ∷ other) =
    Product p x ∷ Product a y ∷ Difference (p *ℤ x) (a *ℤ y) ∷ combination_pairs p row a other

abbrev pub elimination_pairs : ℕ → List ℤ → List ℤ → List Pair
elimination_pairs place pivot row =
    cond (is_zero (entry row place)) [] (combination_pairs (entry pivot place) row (entry row place) pivot)

abbrev pub line_pairs : ℕ → Line → Line → List Pair
line_pairs place pivot line = cond (line.basic == pivot.basic) [] (elimination_pairs place pivot.entries line.entries)

abbrev pub pivot_pairs : ℕ → ℕ → Line → Table → List Pair
pivot_pairs width place pivot table =
    leaving_pairs width place None table.lines
    ++ flat_map (line_pairs place pivot) table.lines
    ++ elimination_pairs place pivot.entries table.objective

-- ---- the ray of a table whose entering place has no entry above 0

-- the least common multiple of a number and of the lines' entries at their basic columns
abbrev pub multiple_from : ℤ → List Line → ℤ
multiple_from multiple [] = multiple
multiple_from multiple (line ∷ lines) = multiple_from (multiple_of multiple (entry line.entries line.basic)) lines

abbrev pub multiple_pairs : ℤ → List Line → List Pair
multiple_pairs multiple [] = []
multiple_pairs multiple (line ∷ lines) =
    Multiple multiple (entry line.entries line.basic)
    ∷ multiple_pairs (multiple_of multiple (entry line.entries line.basic)) lines

-- the two factors of the ray's entry at a line's basic column: the ray has the multiple at the entering place
abbrev pub falling : ℕ → Line → ℤ
falling place line = neg_ℤ (entry line.entries place)

abbrev pub share : ℤ → Line → ℤ
share multiple line = int_div multiple (entry line.entries line.basic)

-- the factors of the entry at a line's basic column, where that is a column; slacks aren't given
abbrev pub basic_pairs : ℕ → ℕ → ℤ → Line → List Pair
basic_pairs columns place multiple line =
    cond (nat_lt line.basic columns) (Product (falling place line) (share multiple line) ∷ []) []

abbrev pub direction_pairs : ℕ → ℕ → ℤ → List Line → List Pair
direction_pairs columns place multiple lines = flat_map (basic_pairs columns place multiple) lines

abbrev pub ray_pairs : ℕ → ℕ → List Line → List Pair
ray_pairs columns place lines =
    multiple_pairs (pos 1) lines ++ direction_pairs columns place (multiple_from (pos 1) lines) lines

-- the entries at the lines' basic columns, put in their places; a place past the columns is left out
abbrev pub with_basics : ℕ → ℤ → List Line → List ℤ → List ℤ
with_basics place multiple [] ray = ray
with_basics place multiple (line ∷ lines) ray =
    with_basics place multiple lines (set ray line.basic (falling place line *ℤ share multiple line))

-- the ray: the multiple at the entering place, the entries at the basic columns, 0 at every other column, made primitive
abbrev pub ray_of : ℕ → ℕ → List Line → List ℤ
ray_of columns place lines =
    let multiple = multiple_from (pos 1) lines in
    primitive_of (with_basics place multiple lines (set (replicate columns (pos 0)) place multiple))

-- ---- the outcome

pub data Outcome : Type 0 where
  -- the table has too many entries
  TooLarge : Outcome
  -- the number of pivots, the multipliers, the denominator, and the bound
  Greatest : ℕ → List ℤ → ℤ → ℤ → Outcome
  -- the multipliers and the denominator of an optimal table, one of which reaches 2^80
  LargeMultiplier : List ℤ → Outcome
  Direction : List ℤ → Outcome
  -- neither an optimal table nor a ray up to the limit
  Limit : Outcome
  -- the number of the table, and its pairs, one of which is wide
  TooWide : ℕ → List Pair → Outcome

-- an optimal table: the multipliers are the objective row's slack entries, the denominator is its objective entry,
-- and the bound is the right side divided by the denominator, rounded down (neither is negative)
abbrev pub optimal_outcome : RowsData → ℕ → List ℤ → Outcome
optimal_outcome d number objective =
    let multipliers = take (length d.rows) (drop (length d.costs) objective) in
    let denominator = entry objective (width d) in
    cond (list_any is_large (multipliers ++ denominator ∷ []))
    (LargeMultiplier (multipliers ++ denominator ∷ []))
    (Greatest number multipliers denominator (int_div (entry objective (width d + 1)) denominator))

abbrev pub ray_outcome : RowsData → ℕ → ℕ → List Line → Outcome
ray_outcome d number place lines =
    let pairs = ray_pairs (length d.costs) place lines in
    cond (list_any is_wide pairs) (TooWide number pairs) (Direction (ray_of (length d.costs) place lines))

abbrev pub outcome_of_leaving : RowsData → ℕ → ℕ → List Line → (ℕ → Line → Outcome) → Option Line → Outcome
outcome_of_leaving d number place lines otherwise None = ray_outcome d number place lines
outcome_of_leaving d number place lines otherwise (Some pivot) = otherwise place pivot

abbrev pub outcome_of_entering : RowsData → ℕ → Table → (ℕ → Line → Outcome) → Option ℕ → Outcome
outcome_of_entering d number table otherwise None = optimal_outcome d number table.objective
outcome_of_entering d number table otherwise (Some place) =
    outcome_of_leaving d number place table.lines otherwise (leaving (width d) place table.lines)

-- the outcome at a table: an optimum, a ray, or what its pivot leads to
abbrev pub outcome_at : RowsData → ℕ → Table → (ℕ → Line → Outcome) → Outcome
outcome_at d number table otherwise = outcome_of_entering d number table otherwise (entering (width d) table.objective)

-- the outcome from the table of that number on, with so many pivots left
abbrev pub outcome_from : RowsData → ℕ → ℕ → Outcome
outcome_from d zero number = outcome_at d number (table_at d number) (λ place pivot. Limit)
outcome_from d (suc left) number =
    outcome_at d number (table_at d number)
    (λ place pivot. cond (list_any is_wide (pivot_pairs (width d) place pivot (table_at d number)))
    (TooWide number (pivot_pairs (width d) place pivot (table_at d number)))
    (outcome_from d left (suc number)))

-- the number of entries of a table without its objective row
abbrev pub table_size : RowsData → ℕ
table_size d = length d.rows * (length d.costs + length d.rows + 2)

abbrev pub outcome_of : RowsData → ℕ → Outcome
outcome_of d limit = cond (nat_lt 16777216 (table_size d)) TooLarge (outcome_from d limit 0)

-- ---- the answers

-- the answer says the outcome, or that memory ran out. A wide pair may be any of the table's, and a large multiplier
-- any of the optimal table's; all else is fixed
abbrev pub SaysOutcome : RowsData → ℕ → Outcome → Result Optimum SolveFault → Type 0
SaysOutcome d limit outcome (Err Memory) = Unit {0}
SaysOutcome d limit TooLarge (Err (Entries rows columns)) = (rows ≡ length d.rows) × (columns ≡ length d.costs)
SaysOutcome d limit (Greatest number multipliers denominator bound) (Ok optimum) =
    (optimum.pivots ≡ number) × (optimum.multipliers ≡ multipliers) × (optimum.denominator ≡ denominator) × (optimum.bound ≡ bound)
SaysOutcome d limit (LargeMultiplier values) (Err (Multiplier value)) = Contains values value × (pos (2 ^ 80) ≤ℤ value)
SaysOutcome d limit (Direction direction) (Err (Unbounded ray)) = ray ≡ direction
SaysOutcome d limit Limit (Err (Pivots count)) = count ≡ limit
SaysOutcome d limit (TooWide number pairs) (Err (Wide pivots a b)) =
    (pivots ≡ number) × HasWide pairs a b
SaysOutcome d limit outcome answer = ⊥

-- ---- worked cases

optimum_case : outcome_of example 5 ≡ Greatest 2 (pos 5 ∷ pos 1 ∷ []) (pos 2) (pos 11)
unfolding gcd_within
optimum_case = refl

-- one pivot is too few
limit_case : outcome_of example 1 ≡ Limit
unfolding gcd_within
limit_case = refl

-- a column of cost 1 that no row holds back
abbrev loose : RowsData
loose = record { costs = pos 1 ∷ []; rows = (pos 0 ∷ []) ∷ []; rights = pos 1 ∷ [] }

ray_case : outcome_of loose 5 ≡ Direction (pos 1 ∷ [])
unfolding gcd_within
ray_case = refl
