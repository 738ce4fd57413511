-- Multipliers, one for each row, that bound the cost of every point of the rows: they cover the columns and stay below the bound.
use Rattle.std.specs.Prelude.{◌≡◌, ◌≢◌, ℕ, ◌+◌, ◌*◌, ◌^◌, ◌<◌, ◌≤◌, ◌==◌, cond, List, [], ◌∷◌, length, ℤ, pos, ◌*ℤ◌, ◌≤ℤ◌, ◌<ℤ◌, int_le, int_lt, unsigned_abs, sum_by, All, Option, Some, None, refl}
use Rattle.whole_rows.specs.Rows.{RowsData, cost_at, column_of, column_sum, right_sum, sample}
use Rattle.whole_rows.specs.declared.DualVerdict.{DualVerdict}
use Rattle.whole_rows.specs.declared.DualVerdict.TheVariants.{Yes, Count, Column, Bound}

-- at each column the sum of multiplier times entry is at least the denominator times the cost
abbrev pub CoversColumns : RowsData → List ℕ → ℕ → Type 0
CoversColumns d multipliers denominator =
    (column : ℕ) → column < length d.costs → (pos denominator *ℤ cost_at d column) ≤ℤ column_sum d multipliers column

-- the same at each column before this one
abbrev pub CoversBelow : RowsData → List ℕ → ℕ → ℕ → Type 0
CoversBelow d multipliers denominator end =
    (column : ℕ) → column < end → (pos denominator *ℤ cost_at d column) ≤ℤ column_sum d multipliers column

-- the sum of multiplier times right side is below the denominator times (bound + 1)
abbrev pub StaysBelow : RowsData → List ℕ → ℕ → ℕ → Type 0
StaysBelow d multipliers denominator bound = right_sum d multipliers <ℤ pos (denominator * (bound + 1))

-- there are as many multipliers as rows, they cover the columns, and they stay below the bound
pub record AreGood (d : RowsData) (multipliers : List ℕ) (denominator bound : ℕ) : Type 0 where
  pub counted : length multipliers ≡ length d.rows
  pub covers : CoversColumns d multipliers denominator
  pub below : StaysBelow d multipliers denominator bound

-- ---- the first condition that fails

-- the first column, from `column` on, that isn't covered; `costs` are the costs from there on
abbrev pub first_uncovered : RowsData → List ℕ → ℕ → ℕ → List ℤ → Option ℕ
first_uncovered d multipliers denominator column [] = None
first_uncovered d multipliers denominator column (cost ∷ costs) =
    cond (int_le (pos denominator *ℤ cost) (column_sum d multipliers column))
    (first_uncovered d multipliers denominator (column + 1) costs)
    (Some column)

abbrev pub bound_verdict : RowsData → List ℕ → ℕ → ℕ → DualVerdict
bound_verdict d multipliers denominator bound = cond (int_lt (right_sum d multipliers) (pos (denominator * (bound + 1)))) Yes Bound

abbrev pub column_verdict : Option ℕ → DualVerdict → DualVerdict
column_verdict None otherwise = otherwise
column_verdict (Some column) otherwise = Column column

-- the first condition that fails, in this order: the number of multipliers, the columns in order, the bound; Yes where none fails
abbrev pub first_failing_of : RowsData → List ℕ → ℕ → ℕ → DualVerdict
first_failing_of d multipliers denominator bound =
    cond (length multipliers == length d.rows)
    (column_verdict (first_uncovered d multipliers denominator 0 d.costs) (bound_verdict d multipliers denominator bound))
    (Count (length multipliers) (length d.rows))

-- what each answer says of the multipliers
abbrev pub IsFirstFailing : RowsData → List ℕ → ℕ → ℕ → DualVerdict → Type 0
IsFirstFailing d multipliers denominator bound Yes = AreGood d multipliers denominator bound
IsFirstFailing d multipliers denominator bound (Count given wanted) =
    (given ≡ length multipliers) × (wanted ≡ length d.rows) × (given ≢ wanted)
IsFirstFailing d multipliers denominator bound (Column column) =
    (length multipliers ≡ length d.rows) × (column < length d.costs) × CoversBelow d multipliers denominator column × (column_sum d multipliers column <ℤ (pos denominator *ℤ cost_at d column))
IsFirstFailing d multipliers denominator bound Bound =
    (length multipliers ≡ length d.rows) × CoversColumns d multipliers denominator × (pos (denominator * (bound + 1)) ≤ℤ right_sum d multipliers)

-- ---- sizes under which no sum leaves 128 bits

-- the sum of the sizes of a column's entries
abbrev pub column_size : RowsData → ℕ → ℕ
column_size d column = sum_by unsigned_abs (column_of d column)

-- the sizes of each column's entries and the right sides have sums below 2^40, and each cost is from 0 to 2^29
pub record HasSmallSizes (d : RowsData) : Type 0 where
  pub columns : (column : ℕ) → column < length d.costs → column_size d column < 2 ^ 40
  pub rights : sum_by unsigned_abs d.rights < 2 ^ 40
  pub costs_not_negative : All (λ cost. pos 0 ≤ℤ cost) d.costs
  pub costs_small : All (λ cost. unsigned_abs cost ≤ 2 ^ 29) d.costs

-- ---- worked cases: the multipliers 5/2 and 1/2 show that no point of the sample reaches 12

good_case : first_failing_of sample (5 ∷ 1 ∷ []) 2 11 ≡ Yes
good_case = refl

count_case : first_failing_of sample (5 ∷ []) 2 11 ≡ Count 1 2
count_case = refl

column_case : first_failing_of sample (5 ∷ 2 ∷ []) 2 11 ≡ Column 1
column_case = refl

bound_case : first_failing_of sample (5 ∷ 1 ∷ []) 2 10 ≡ Bound
bound_case = refl
