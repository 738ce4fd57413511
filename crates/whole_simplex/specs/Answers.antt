-- What the answers of `solve` promise of the rows, in terms of all points and rays.
use Rattle.std.specs.Prelude.{◌≡◌, ◌^◌, List, map, length, ℤ, pos, ◌+ℤ◌, ◌*ℤ◌, ◌≤ℤ◌, ◌<ℤ◌, unsigned_abs, All}
use Rattle.whole_rows.specs.Rows.{RowsData, right_sum}
use Rattle.whole_rows.specs.Duals.{CoversColumns}
use Rattle.whole_rows.specs.Greatest.{IsGreatest, IsRay}
use Rattle.whole_simplex.specs.declared.SolveFault.{SolveFault}
use Rattle.whole_simplex.specs.declared.SolveFault.TheVariants.{Unbounded}

-- a multiplier or a denominator: not negative, and below 2^80
abbrev pub IsSmall : ℤ → Type 0
IsSmall value = (pos 0 ≤ℤ value) × (value <ℤ pos (2 ^ 80))

-- one multiplier for each row; with the denominator they cover the columns, and the sum of multiplier times right side is
-- the bound times the denominator, or less than a denominator above it; the bound is the greatest value of the rows, rounded down
pub record IsOptimum (d : RowsData) (multipliers : List ℤ) (denominator bound : ℤ) : Type 0 where
  pub counted : length multipliers ≡ length d.rows
  pub multipliers_small : All IsSmall multipliers
  pub denominator_small : IsSmall denominator
  pub denominator_above : pos 0 <ℤ denominator
  pub covers : CoversColumns d (map unsigned_abs multipliers) (unsigned_abs denominator)
  pub reached : (denominator *ℤ bound) ≤ℤ right_sum d (map unsigned_abs multipliers)
  pub below : right_sum d (map unsigned_abs multipliers) <ℤ (denominator *ℤ (bound +ℤ pos 1))
  pub greatest : IsGreatest d bound

-- no entry is negative, no row's left side rises along it, and the cost does
pub record IsUnbounded (d : RowsData) (ray : List ℤ) : Type 0 where
  pub not_negative : All (λ entry. pos 0 ≤ℤ entry) ray
  pub is_ray : IsRay d (map unsigned_abs ray)

-- where the answer shows a ray, it is one of the rows
abbrev pub IsUnboundedFault : RowsData → SolveFault → Type 0
IsUnboundedFault d (Unbounded ray) = IsUnbounded d ray
IsUnboundedFault d fault = Unit {0}
