-- One row more.
use Rattle.std.proofs.Common.{◌≡◌, ◌+ℤ◌, ◌*ℤ◌, ℤ, pos, get_or, unsigned_abs, ap, ◌∙◌, rules, arith}
use Rattle.std.proofs.lemmas.Int.{to_z-of_z, ints}
use Rattle.std.specs.Int.{w128}
use mir.Val.{SFits, to_z}
use Rattle.whole_rows.specs.Rows.{entry_at}
use Rattle.whole_rows.proofs.Combinations.{fits_from_range}
use Rattle.row_squeeze.proofs.Value.{entry_size, total_size, total_more, total_whole}
use Rattle.row_squeeze.proofs.lift.column_total.Goals as goal

pub product-total-requires-clause-entry : goal.product-total-requires-clause-entry
product-total-requires-clause-entry c =
    let fits : SFits w128 c.entry.result = search rules in
    let size = entry_size c.args.rows.now (c.loop-row.row) c.args.column c.requires.sizes c.requires.column (omega (arith, c.requires.counted)) in
    simp to_z-of_z (rw c.entry.ensures.value size)

pub overflow_add-total : goal.overflow_add-total
overflow_add-total c =
    let fits : SFits w128 c.product-total.result = search rules in
    let size = c.product-total.ensures.size in
    let so_far = total_size c.args.rows.now c.args.column c.loop-row.row c.args.multipliers.now c.requires.sizes c.requires.column c.requires.multipliers in
    let here = rw (← c.loop-row.invariant) at so_far in
    simp to_z-of_z (fits_from_range (to_z w128 c.loop-row.total-bits +ℤ c.product-total.result) (omega (arith, ints)))

pub loop-row-preserved : goal.loop-row-preserved
loop-row-preserved c =
    let fits : SFits w128 c.product-total.result = search rules in
    let fits_entry : SFits w128 c.entry.result = search rules in
    let fits_multiplier : SFits w128 (get_or c.args.multipliers.now c.loop-row.row (pos 0)) = search rules in
    let size = c.product-total.ensures.size in
    let so_far = total_size c.args.rows.now c.args.column c.loop-row.row c.args.multipliers.now c.requires.sizes c.requires.column c.requires.multipliers in
    let here = rw (← c.loop-row.invariant) at so_far in
    let fits_sum : SFits w128 (to_z w128 c.loop-row.total-bits +ℤ c.product-total.result) = fits_from_range (to_z w128 c.loop-row.total-bits +ℤ c.product-total.result) (omega (arith, ints)) in
    let product = simp to_z-of_z at c.product-total.ensures.product in
    let product_is : c.product-total.result ≡ entry_at c.args.rows.now c.loop-row.row c.args.column *ℤ pos (unsigned_abs (get_or c.args.multipliers.now c.loop-row.row (pos 0))) = product ∙ ap (λ (x : ℤ). x *ℤ pos (unsigned_abs (get_or c.args.multipliers.now c.loop-row.row (pos 0)))) c.entry.ensures.value in
    simp to_z-of_z (total_more c.args.rows.now c.args.column c.loop-row.row c.args.multipliers.now (to_z w128 c.loop-row.total-bits) c.product-total.result (omega (arith, c.requires.counted)) c.loop-row-test.true c.loop-row.invariant product_is)

pub returns-clause-value : goal.returns-clause-value
returns-clause-value c =
    c.loop-row.invariant ∙ total_whole c.args.rows.now c.args.column c.loop-row.row c.args.multipliers.now (omega (arith, c.requires.counted))

pub returns-clause-size : goal.returns-clause-size
returns-clause-size c =
    let size = total_size c.args.rows.now c.args.column c.loop-row.row c.args.multipliers.now c.requires.sizes c.requires.column c.requires.multipliers in
    rw c.loop-row.invariant size
