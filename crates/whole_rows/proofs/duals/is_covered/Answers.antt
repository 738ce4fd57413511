use Rattle.std.proofs.Common.{◌≡◌, ◌≤◌, ◌*◌, ◌^◌, pos, ◌*ℤ◌, ◌-ℤ◌, get_or, unsigned_abs, ◌∙◌, sym, arith}
use Rattle.std.proofs.lemmas.List.{length-map}
use Rattle.std.proofs.Math.Nat.{mul-le-mul}
use Rattle.whole_rows.proofs.Totals.{nat_product, covered_iff}
use Rattle.std.proofs.lemmas.Int.{to_z-of_z}
use Rattle.std.specs.Int.{w128}
use mir.Val.{SFits}
use Rattle.whole_rows.specs.Rows.{cost_at, column_of, column_sum}
use Rattle.whole_rows.proofs.Combinations.{fits_from_range}
use Rattle.whole_rows.proofs.Dense.{terms_sum-column, terms_size-column}
use Rattle.whole_rows.proofs.duals.is_covered.Goals as goal

pub column_sides-sides-requires-clause-sizes : goal.column_sides-sides-requires-clause-sizes
column_sides-sides-requires-clause-sizes c =
    rw (c.column.ensures.value, terms_size-column 0 (column_of c.args.rows.now c.args.column)) (c.requires.sizes.columns c.args.column c.requires.column)

pub overflow_mul-needed : goal.overflow_mul-needed
overflow_mul-needed c =
    let fits : SFits w128 c.cost.result = fits_from_range c.cost.result c.cost.ensures.in_range in
    let size : c.unsigned_abs.result ≡ unsigned_abs (cost_at c.args.rows.now c.args.column) = rw (← c.cost.ensures.value) (simp to_z-of_z at c.unsigned_abs.ensures.value) in
    let small : unsigned_abs (cost_at c.args.rows.now c.args.column) ≤ 2 ^ 29 = c.requires.sizes.costs_small c.args.column (pos 0) c.requires.column in
    let one : c.args.denominator ≤ 2 ^ 80 = omega (arith, c.requires.denominator_small) in
    let other : c.unsigned_abs.result ≤ 2 ^ 29 = omega arith in
    omega (arith, mul-le-mul one other)

pub returns : goal.returns
returns c =
    let rows = c.args.rows.now in
    let entries = column_of rows c.args.column in
    let fits : SFits w128 c.cost.result = fits_from_range c.cost.result c.cost.ensures.in_range in
    let size : c.unsigned_abs.result ≡ unsigned_abs (cost_at c.args.rows.now c.args.column) = rw (← c.cost.ensures.value) (simp to_z-of_z at c.unsigned_abs.ensures.value) in
    let positive = c.requires.sizes.costs_not_negative c.args.column (pos 0) c.requires.column in
    let needed : pos c.args.denominator *ℤ cost_at c.args.rows.now c.args.column ≡ pos (c.args.denominator * c.unsigned_abs.result) =
    rw size (nat_product c.args.denominator (cost_at rows c.args.column) positive) in
    let sum : column_sum c.args.rows.now c.args.multipliers.now c.args.column ≡ pos c.column_sides-sides.result.more -ℤ pos c.column_sides-sides.result.less =
    sym (terms_sum-column entries c.args.multipliers.now (omega (arith, length-map rows.rows (λ row. get_or row c.args.column (pos 0)), c.requires.counted))) ∙ (rw c.column.ensures.value at c.column_sides-sides.ensures.sum) in
    covered_iff (c.args.denominator * c.unsigned_abs.result) c.column_sides-sides.result.less c.column_sides-sides.result.more (pos c.args.denominator *ℤ cost_at rows c.args.column) (column_sum rows c.args.multipliers.now c.args.column) needed sum
