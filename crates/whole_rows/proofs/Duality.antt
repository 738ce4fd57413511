-- Weak duality: good multipliers bound the cost of every point.
use Rattle.std.proofs.Common.{◌≡◌, ℕ, ◌+◌, ◌*◌, ◌<◌, List, length, pos, ◌*ℤ◌, ◌≤ℤ◌, ◌<ℤ◌, arith}
use Rattle.std.proofs.lemmas.Int.{ints, by_lt_z}
use Rattle.whole_rows.specs.Rows.{RowsData, IsShaped, cost_of, right_sum}
use Rattle.whole_rows.specs.Duals.{AreGood, CoversColumns}
use Rattle.whole_rows.specs.Greatest.{IsPoint, Reaches, MeetsRows, IsRay}
use Rattle.whole_rows.proofs.Whole.{nat-mul-le-mul, nat-mul-lt-mul}
use Rattle.whole_rows.proofs.Sums.{rows_cover, rows_meet}

-- the denominator times a point's cost is at most k times the sum of multiplier times right side
pub cost-le-rights : (d : RowsData) (multipliers : List ℕ) (denominator : ℕ) (u : List ℕ) (k : ℕ) → IsShaped d → CoversColumns d multipliers denominator → IsPoint d u k → (pos denominator *ℤ cost_of d u) ≤ℤ (pos k *ℤ right_sum d multipliers)
cost-le-rights d multipliers denominator u k shape covers point =
    let by_rows = rows_cover d.rows multipliers denominator d.costs u point.fits covers in
    let by_rights = rows_meet d.rows d.rights multipliers u k shape.rights_fit point.meets in
    omega (arith, ints)

-- no point reaches one more than the bound
pub unreached : (d : RowsData) (multipliers : List ℕ) (denominator bound : ℕ) → IsShaped d → AreGood d multipliers denominator bound → (u : List ℕ) (k : ℕ) → IsPoint d u k → Reaches d u k (pos (bound + 1)) → ⊥
unreached d multipliers denominator bound shape good u k point reaches =
    let most = cost-le-rights d multipliers denominator u k shape good.covers point in
    let below = nat-mul-lt-mul (right_sum d multipliers) (pos (denominator * (bound + 1))) k point.above_zero good.below in
    let least = nat-mul-le-mul (pos k *ℤ pos (bound + 1)) (cost_of d u) denominator reaches in
    omega (arith, ints)

-- natural numbers that meet each row are a point
pub point_of_counts : (d : RowsData) (u : List ℕ) → length u ≡ length d.costs → MeetsRows d u → IsPoint d u 1
point_of_counts d u fits meets = record {
  fits = fits;
  above_zero = omega arith;
  meets = λ row h. let m = meets row h in omega (arith, ints);
}

-- and good multipliers bound their cost
pub counts_stay_within : (d : RowsData) (multipliers : List ℕ) (denominator bound : ℕ) → IsShaped d → AreGood d multipliers denominator bound → (u : List ℕ) → length u ≡ length d.costs → MeetsRows d u → cost_of d u ≤ℤ pos bound
counts_stay_within d multipliers denominator bound shape good u fits meets =
    by_lt_z (pos bound) (cost_of d u) (λ more. absurd (above more)) (λ within. within)
  where
    above : pos bound <ℤ cost_of d u → ⊥
    above more =
        unreached d multipliers denominator bound shape good u 1 (point_of_counts d u fits meets) (omega (arith, ints))

-- where there is a ray, no multipliers cover the columns, with any denominator above 0
pub uncovered_by_ray : (d : RowsData) (multipliers : List ℕ) (denominator : ℕ) (u : List ℕ) → IsShaped d → 0 < denominator → IsRay d u → CoversColumns d multipliers denominator → ⊥
uncovered_by_ray d multipliers denominator u shape above ray covers =
    let by_rows = rows_cover d.rows multipliers denominator d.costs u ray.fits covers in
    let by_rights = rows_meet d.rows d.rights multipliers u 0 shape.rights_fit (λ row h. let keeps = ray.keeps row h in omega (arith, ints)) in
    let gains = nat-mul-lt-mul (pos 0) (cost_of d u) denominator above ray.gains in
    omega (arith, ints)
