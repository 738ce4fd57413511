-- The greatest value of small rows is from 0 to 2^120.
use Rattle.std.proofs.Common.{ℕ, ◌*◌, ◌^◌, ◌<◌, ◌≤◌, List, [], ◌∷◌, map, ℤ, pos, negsuc, ◌+ℤ◌, ◌*ℤ◌, ◌≤ℤ◌, ◌<ℤ◌, unsigned_abs, All, arith, mul-le-mul_right}
use Rattle.std.proofs.lemmas.Int.{ints}
use Rattle.std.proofs.lemmas.List.Elements.{All-head, All-tail}
use Rattle.whole_rows.specs.Rows.{RowsData, product_sum, right_sum}
use Rattle.whole_rows.specs.Duals.{HasSmallSizes}
use Rattle.whole_rows.proofs.Whole.{nat-mul-le-mul}
use Rattle.whole_simplex.specs.Answers.{IsOptimum}
use Rattle.row_squeeze.proofs.Walking.{small_is, sum_size}
use Rattle.bound_solver.specs.Bounds.{IsWithinLimits}

-- sums of numbers that aren't negative, times natural ones
sum_not_negative : (xs : List ℤ) (ns : List ℕ) → All (λ x. pos 0 ≤ℤ x) xs → pos 0 ≤ℤ product_sum xs ns
sum_not_negative [] ns above = omega (arith, ints)
sum_not_negative (x ∷ xs) [] above = omega (arith, ints)
sum_not_negative (x ∷ xs) (n ∷ ns) above =
    let first = nat-mul-le-mul (pos 0) x n (All-head (λ x. pos 0 ≤ℤ x) x xs above) in
    let rest = sum_not_negative xs ns (All-tail (λ x. pos 0 ≤ℤ x) x xs above) in
    omega (arith, ints)

-- a number whose product with one above 0 lies between 0 less a factor and a limit
low : (n : ℕ) (bound sum : ℤ) → pos 0 ≤ℤ sum → sum <ℤ (pos n *ℤ (bound +ℤ pos 1)) → pos 0 ≤ℤ bound
low n (pos b) sum above below = omega (arith, ints)
low n (negsuc b) sum above below =
    let less : (negsuc b +ℤ pos 1) ≤ℤ pos 0 = omega (arith, ints) in
    let product = nat-mul-le-mul (negsuc b +ℤ pos 1) (pos 0) n less in
    absurd (omega (arith, ints))

high : (n limit : ℕ) (bound sum : ℤ) → 0 < n → (pos n *ℤ bound) ≤ℤ sum → unsigned_abs sum < limit → bound <ℤ pos limit
high n limit (negsuc b) sum above reached small = omega (arith, ints)
high n limit (pos b) sum above reached small =
    let more : 1 * b ≤ n * b = mul-le-mul_right b above in
    omega (arith, ints)

pub optimum_within : (d : RowsData) (multipliers : List ℤ) (denominator bound : ℤ) → HasSmallSizes d
    → All (λ right. pos 0 ≤ℤ right) d.rights → IsOptimum d multipliers denominator bound → IsWithinLimits bound
optimum_within d multipliers denominator bound sizes rights optimum =
    let natural = small_is denominator optimum.denominator_small in
    let above : 0 < unsigned_abs denominator = (let over = optimum.denominator_above in omega (arith, ints)) in
    let below = rw natural at optimum.below in
    let reached = rw natural at optimum.reached in
    let size = sum_size d.rights multipliers optimum.multipliers_small in
    let few = sizes.rights in
    let small : unsigned_abs (right_sum d (map unsigned_abs multipliers)) < 2 ^ 120 = omega arith in (
      low (unsigned_abs denominator) bound (right_sum d (map unsigned_abs multipliers)) (sum_not_negative d.rights (map unsigned_abs multipliers) rights) below,
      high (unsigned_abs denominator) (2 ^ 120) bound (right_sum d (map unsigned_abs multipliers)) above reached small,
    )
