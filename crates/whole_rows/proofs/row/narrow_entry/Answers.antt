-- Products of numbers of 64 bits and their difference are in range.
use Rattle.std.proofs.Common.{◌<◌, ◌^◌, ℤ, ◌-ℤ◌, ◌*ℤ◌, unsigned_abs, refl, arith}
use Rattle.std.proofs.lemmas.Int.{to_z-of_z}
use Rattle.std.specs.Int.{w128}
use mir.Val.{SFits}
use Rattle.whole_rows.specs.Row.{IsInRange}
use Rattle.whole_rows.proofs.Whole.{narrow_product_size, difference_size}
use Rattle.whole_rows.proofs.Combinations.{combined_entry-ok, fits_from_range}
use Rattle.whole_rows.proofs.row.narrow_entry.Goals as goal

-- a product of two of them
small : (a b : ℤ) → unsigned_abs a < 2 ^ 63 → unsigned_abs b < 2 ^ 63 → IsInRange (a *ℤ b)
small a b h k = let size = narrow_product_size a b h k in omega arith

pub overflow_mul-result : goal.overflow_mul-result
overflow_mul-result c =
    let p : SFits w128 c.args.p = c.ranges.p in
    let x : SFits w128 c.args.x = c.ranges.x in
    simp to_z-of_z (fits_from_range (c.args.p *ℤ c.args.x) (small c.args.p c.args.x c.requires.p c.requires.x))

pub overflow_mul-result-2 : goal.overflow_mul-result-2
overflow_mul-result-2 c =
    let a : SFits w128 c.args.a = c.ranges.a in
    let y : SFits w128 c.args.y = c.ranges.y in
    simp to_z-of_z (fits_from_range (c.args.a *ℤ c.args.y) (small c.args.a c.args.y c.requires.a c.requires.y))

pub overflow_sub-result : goal.overflow_sub-result
overflow_sub-result c =
    let p : SFits w128 c.args.p = c.ranges.p in
    let x : SFits w128 c.args.x = c.ranges.x in
    let a : SFits w128 c.args.a = c.ranges.a in
    let y : SFits w128 c.args.y = c.ranges.y in
    let left : SFits w128 (c.args.p *ℤ c.args.x) = fits_from_range (c.args.p *ℤ c.args.x) (small c.args.p c.args.x c.requires.p c.requires.x) in
    let right : SFits w128 (c.args.a *ℤ c.args.y) = fits_from_range (c.args.a *ℤ c.args.y) (small c.args.a c.args.y c.requires.a c.requires.y) in
    simp to_z-of_z (fits_from_range (c.args.p *ℤ c.args.x -ℤ c.args.a *ℤ c.args.y) (difference_size (c.args.p *ℤ c.args.x) (c.args.a *ℤ c.args.y) (narrow_product_size c.args.p c.args.x c.requires.p c.requires.x) (narrow_product_size c.args.a c.args.y c.requires.a c.requires.y)))

pub returns : goal.returns
returns c =
    let p : SFits w128 c.args.p = c.ranges.p in
    let x : SFits w128 c.args.x = c.ranges.x in
    let a : SFits w128 c.args.a = c.ranges.a in
    let y : SFits w128 c.args.y = c.ranges.y in
    let in_left = small c.args.p c.args.x c.requires.p c.requires.x in
    let in_right = small c.args.a c.args.y c.requires.a c.requires.y in
    let left : SFits w128 (c.args.p *ℤ c.args.x) = fits_from_range (c.args.p *ℤ c.args.x) in_left in
    let right : SFits w128 (c.args.a *ℤ c.args.y) = fits_from_range (c.args.a *ℤ c.args.y) in_right in
    let in_rest : IsInRange (c.args.p *ℤ c.args.x -ℤ c.args.a *ℤ c.args.y) =
    difference_size (c.args.p *ℤ c.args.x) (c.args.a *ℤ c.args.y) (narrow_product_size c.args.p c.args.x c.requires.p c.requires.x) (narrow_product_size c.args.a c.args.y c.requires.a c.requires.y) in
    let rest : SFits w128 (c.args.p *ℤ c.args.x -ℤ c.args.a *ℤ c.args.y) = fits_from_range (c.args.p *ℤ c.args.x -ℤ c.args.a *ℤ c.args.y) in_rest in
    let value = combined_entry-ok c.args.p c.args.x c.args.a c.args.y (c.args.p *ℤ c.args.x) (c.args.a *ℤ c.args.y) (c.args.p *ℤ c.args.x -ℤ c.args.a *ℤ c.args.y) in_left refl in_right refl in_rest refl in
    (simp to_z-of_z value, simp to_z-of_z in_rest)
