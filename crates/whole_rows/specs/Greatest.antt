-- Points of rows over fractions, the greatest value that they reach, and rays.
use Rattle.std.specs.Prelude.{◌≡◌, ℕ, ◌<◌, List, length, ℤ, pos, ◌+ℤ◌, ◌*ℤ◌, ◌≤ℤ◌, ◌<ℤ◌}
use Rattle.whole_rows.specs.Rows.{RowsData, left_side, right_at, cost_of}

-- the fractions u/k, one for each column and none negative, meet each row: its left side is at most its right side
pub record IsPoint (d : RowsData) (u : List ℕ) (k : ℕ) : Type 0 where
  pub fits : length u ≡ length d.costs
  pub above_zero : 0 < k
  pub meets : (row : ℕ) → row < length d.rows → left_side d row u ≤ℤ (pos k *ℤ right_at d row)

-- natural numbers, one for each column, that meet each row; they are a point with denominator 1
abbrev pub MeetsRows : RowsData → List ℕ → Type 0
MeetsRows d u = (row : ℕ) → row < length d.rows → left_side d row u ≤ℤ right_at d row

-- the cost of the fractions u/k is at least the value
abbrev pub Reaches : RowsData → List ℕ → ℕ → ℤ → Type 0
Reaches d u k value = (pos k *ℤ value) ≤ℤ cost_of d u

-- the rows' bound: the greatest value over fractions, rounded down; some point reaches it, and no point reaches one more
pub record IsGreatest (d : RowsData) (bound : ℤ) : Type 0 where
  pub numerators : List ℕ
  pub denominator : ℕ
  pub is_point : IsPoint d numerators denominator
  pub reaches : Reaches d numerators denominator bound
  pub unreached : (u : List ℕ) (k : ℕ) → IsPoint d u k → Reaches d u k (bound +ℤ pos 1) → ⊥

-- a direction along which a point can go on for good and gain: no row's left side rises, and the cost does
pub record IsRay (d : RowsData) (u : List ℕ) : Type 0 where
  pub fits : length u ≡ length d.costs
  pub keeps : (row : ℕ) → row < length d.rows → left_side d row u ≤ℤ pos 0
  pub gains : pos 0 <ℤ cost_of d u
