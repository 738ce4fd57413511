-- One right side more.
use Rattle.std.proofs.Common.{◌≡◌, ◌<◌, ◌+◌, ◌*◌, ◌^◌, ℕ, List, ℤ, pos, ◌≤ℤ◌, length, get_or, take, unsigned_abs, refl, arith}
use Rattle.std.proofs.lemmas.List.{take_all}
use Rattle.std.proofs.lemmas.Int.{to_z-of_z}
use Rattle.std.specs.Int.{w128}
use mir.Val.{SFits, to_z, of_z}
use Rattle.whole_rows.specs.Row.{IsInRange}
use Rattle.whole_rows.specs.Rows.{RowsData, AreRows, right_at}
use Rattle.whole_rows.proofs.Combinations.{fits_from_range}
use Rattle.whole_rows.proofs.Totals.{IsTotal, one_more, total_fits}
use Rattle.split_trees.proofs.sums.right_total.Goals as goal

-- a right side as the code reads it
next : (d : RowsData) (multipliers : List ℕ) (i total size : ℕ) (right : ℤ) → AreRows d → i < length d.rows → right ≡ right_at d i → IsInRange right → pos 0 ≤ℤ right → size ≡ unsigned_abs (to_z w128 (of_z w128 right)) → get_or multipliers i 0 < 2 ^ 80 → IsTotal d.rights multipliers i total → IsTotal d.rights multipliers (i + 1) (total + size * get_or multipliers i 0)
next d multipliers i total size right are h is in_range positive is_size small so_far =
    let fits : SFits w128 right = fits_from_range right in_range in
    let is_abs : size ≡ unsigned_abs (right_at d i) = rw (← is) (simp to_z-of_z at is_size) in
    one_more d.rights i multipliers total size (get_or multipliers i 0) (omega (arith, are.shape.rights_fit)) is_abs refl small (rw (← is) positive) so_far

pub loop-row-preserved : goal.loop-row-preserved
loop-row-preserved c =
    let within : c.loop-row.row < length c.args.rows.now.rows = omega (arith, c.loop-row-test.true, c.row_count-row-end.ensures.value) in
    let small = c.requires.multipliers_small (c.loop-row.row) 0 (omega (arith, c.requires.counted, c.row_count-row-end.ensures.value)) in
    next c.args.rows.now c.args.multipliers.now c.loop-row.row c.loop-row.total c.unsigned_abs.result c.right.result c.row_count-row-end.ensures.rows within c.right.ensures.value c.right.ensures.in_range c.right.ensures.not_negative c.unsigned_abs.ensures.value small c.loop-row.invariant

pub overflow_add-total : goal.overflow_add-total
overflow_add-total c =
    let within : c.loop-row.row < length c.args.rows.now.rows = omega (arith, c.loop-row-test.true, c.row_count-row-end.ensures.value) in
    let small = c.requires.multipliers_small (c.loop-row.row) 0 (omega (arith, c.requires.counted, c.row_count-row-end.ensures.value)) in
    let more = next c.args.rows.now c.args.multipliers.now c.loop-row.row c.loop-row.total c.unsigned_abs.result c.right.result c.row_count-row-end.ensures.rows within c.right.ensures.value c.right.ensures.in_range c.right.ensures.not_negative c.unsigned_abs.ensures.value small c.loop-row.invariant in
    let bound = total_fits c.args.rows.now.rights (c.loop-row.row + 1) c.args.multipliers.now (c.loop-row.total + c.unsigned_abs.result * get_or c.args.multipliers.now (c.loop-row.row) 0) c.requires.sizes.rights more in
    omega arith

pub overflow_mul-total : goal.overflow_mul-total
overflow_mul-total c =
    let within : c.loop-row.row < length c.args.rows.now.rows = omega (arith, c.loop-row-test.true, c.row_count-row-end.ensures.value) in
    let small = c.requires.multipliers_small (c.loop-row.row) 0 (omega (arith, c.requires.counted, c.row_count-row-end.ensures.value)) in
    let more = next c.args.rows.now c.args.multipliers.now c.loop-row.row c.loop-row.total c.unsigned_abs.result c.right.result c.row_count-row-end.ensures.rows within c.right.ensures.value c.right.ensures.in_range c.right.ensures.not_negative c.unsigned_abs.ensures.value small c.loop-row.invariant in
    let bound = total_fits c.args.rows.now.rights (c.loop-row.row + 1) c.args.multipliers.now (c.loop-row.total + c.unsigned_abs.result * get_or c.args.multipliers.now (c.loop-row.row) 0) c.requires.sizes.rights more in
    omega arith

pub returns-clause-sum : goal.returns-clause-sum
returns-clause-sum c =
    let whole : take c.loop-row.row c.args.rows.now.rights ≡ c.args.rows.now.rights =
    take_all c.loop-row.row c.args.rows.now.rights (omega (arith, c.loop-row-test.false, c.row_count-row-end.ensures.value, c.row_count-row-end.ensures.rows.shape.rights_fit)) in
    rw whole at c.loop-row.invariant.0

pub returns-clause-small : goal.returns-clause-small
returns-clause-small c =
    total_fits c.args.rows.now.rights c.loop-row.row c.args.multipliers.now c.loop-row.total c.requires.sizes.rights c.loop-row.invariant

pub returns-clause-shape : goal.returns-clause-shape
returns-clause-shape c = c.row_count-row-end.ensures.rows.shape
