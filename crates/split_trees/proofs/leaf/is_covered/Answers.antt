use Rattle.std.proofs.Common.{◌≡◌, ◌++◌, ◌+◌, ◌≤◌, ◌*◌, ◌^◌, pos, ◌*ℤ◌, ◌-ℤ◌, unsigned_abs, arith}
use Rattle.std.proofs.Math.Nat.{mul-le-mul}
use Rattle.std.proofs.lemmas.Int.{ints, to_z-of_z}
use Rattle.std.specs.Int.{w128}
use mir.Val.{SFits}
use Rattle.whole_rows.specs.Rows.{cost_at, column_sum}
use Rattle.whole_rows.proofs.Combinations.{fits_from_range}
use Rattle.whole_rows.proofs.Totals.{nat_product, covered_iff}
use Rattle.split_trees.specs.Sides.{split_rows}
use Rattle.split_trees.proofs.Beside.{column_sum-beside}
use Rattle.split_trees.proofs.leaf.is_covered.Goals as goal

pub overflow_mul-needed : goal.overflow_mul-needed
overflow_mul-needed c =
    let fits : SFits w128 c.cost.result = fits_from_range c.cost.result c.cost.ensures.in_range in
    let size : c.unsigned_abs.result ≡ unsigned_abs (cost_at c.args.rows.now c.args.column) = rw (← c.cost.ensures.value) (simp to_z-of_z at c.unsigned_abs.ensures.value) in
    let small : unsigned_abs (cost_at c.args.rows.now c.args.column) ≤ 2 ^ 29 = c.requires.sizes.costs_small c.args.column (pos 0) c.requires.column in
    let one : c.args.denominator ≤ 2 ^ 80 = omega (arith, c.requires.denominator_small) in
    let other : c.unsigned_abs.result ≤ 2 ^ 29 = omega arith in
    omega (arith, mul-le-mul one other)

pub returns : goal.returns
returns c =
    let rows = c.args.rows.now in
    let all = c.args.own.now ++ c.args.cuts.now in
    let fits : SFits w128 c.cost.result = fits_from_range c.cost.result c.cost.ensures.in_range in
    let size : c.unsigned_abs.result ≡ unsigned_abs (cost_at c.args.rows.now c.args.column) = rw (← c.cost.ensures.value) (simp to_z-of_z at c.unsigned_abs.ensures.value) in
    let positive = c.requires.sizes.costs_not_negative c.args.column (pos 0) c.requires.column in
    let needed : pos c.args.denominator *ℤ cost_at c.args.rows.now c.args.column ≡ pos (c.args.denominator * c.unsigned_abs.result) =
    rw size (nat_product c.args.denominator (cost_at rows c.args.column) positive) in
    let beside = column_sum-beside rows c.args.sides.now c.args.own.now c.args.cuts.now c.args.column c.requires.counted c.requires.column in
    let sum : column_sum (split_rows c.args.rows.now c.args.sides.now) (c.args.own.now ++ c.args.cuts.now) c.args.column
    ≡ pos (c.column_sums-sums.result.more + c.side_sums-rest.result.more) -ℤ pos (c.column_sums-sums.result.less + c.side_sums-rest.result.less) =
    omega (arith, ints, beside, c.column_sums-sums.ensures.sum, c.side_sums-rest.ensures.sum) in
    covered_iff (c.args.denominator * c.unsigned_abs.result) (c.column_sums-sums.result.less + c.side_sums-rest.result.less)
    (c.column_sums-sums.result.more + c.side_sums-rest.result.more) (pos c.args.denominator *ℤ cost_at rows c.args.column)
    (column_sum (split_rows rows c.args.sides.now) all c.args.column) needed sum
