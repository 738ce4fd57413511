-- Neither the product nor the sum is large.
use Rattle.std.proofs.Common.{◌≡◌, ◌-ℤ◌, ◌*ℤ◌, ℤ, ap, ◌∙◌, rules, arith}
use Rattle.std.proofs.lemmas.Int.{to_z-of_z, ints}
use Rattle.std.specs.Int.{w128}
use mir.Val.{SFits}
use Rattle.whole_rows.specs.Rows.{cost_at}
use Rattle.whole_rows.proofs.Combinations.{fits_from_range}
use Rattle.row_squeeze.proofs.lift.remainder.Goals as goal

pub returns-clause-value : goal.returns-clause-value
returns-clause-value c =
    let fits_denominator : SFits w128 c.args.denominator = search rules in
    let fits_cost : SFits w128 c.cost.result = search rules in
    let fits_product : SFits w128 c.product.result = search rules in
    let fits_total : SFits w128 c.column_total.result = search rules in
    let product_size = c.product.ensures.size in
    let total_size = c.column_total.ensures.size in
    let fits : SFits w128 (c.product.result -ℤ c.column_total.result) = fits_from_range (c.product.result -ℤ c.column_total.result) (omega (arith, ints)) in
    let product = simp to_z-of_z at c.product.ensures.value in
    let product_is : c.product.result ≡ c.args.denominator *ℤ cost_at c.args.rows.now c.args.column = product ∙ ap (λ (x : ℤ). c.args.denominator *ℤ x) c.cost.ensures.value in
    simp to_z-of_z (ap (λ (x : ℤ). x -ℤ c.column_total.result) product_is ∙ ap (λ (x : ℤ). c.args.denominator *ℤ cost_at c.args.rows.now c.args.column -ℤ x) c.column_total.ensures.value)
