-- Each branch is one case of the definition.
use Rattle.std.proofs.Common.{◌≡◌, ◌-ℤ◌, ◌*ℤ◌}
use Rattle.std.proofs.lemmas.Int.{to_z-of_z}
use Rattle.std.specs.Int.{w128}
use mir.Val.{SFits}
use Rattle.whole_rows.specs.Row.{IsInRange}
use Rattle.whole_rows.proofs.Combinations.{combined_entry-ok, combined_entry-both, fits_from_range}
use Rattle.whole_rows.proofs.row.wide_entry.Goals as goal

pub returns-in-Some-difference-clause-value : goal.returns-in-Some-difference-clause-value
returns-in-Some-difference-clause-value c =
    let p : SFits w128 c.args.p = c.ranges.p in
    let x : SFits w128 c.args.x = c.ranges.x in
    let a : SFits w128 c.args.a = c.ranges.a in
    let y : SFits w128 c.args.y = c.ranges.y in
    let left : IsInRange (c.args.p *ℤ c.args.x) × (c.in-Some.left ≡ c.args.p *ℤ c.args.x) = simp to_z-of_z at c.in-Some.ensures in
    let right : IsInRange (c.args.a *ℤ c.args.y) × (c.in-Some-product.right ≡ c.args.a *ℤ c.args.y) = simp to_z-of_z at c.in-Some-product.ensures in
    let left_fits : SFits w128 c.in-Some.left = fits_from_range c.in-Some.left (rw left.1 left.0) in
    let right_fits : SFits w128 c.in-Some-product.right = fits_from_range c.in-Some-product.right (rw right.1 right.0) in
    let rest : IsInRange (c.in-Some.left -ℤ c.in-Some-product.right) × (c.in-Some-difference.entry ≡ c.in-Some.left -ℤ c.in-Some-product.right) = simp to_z-of_z at c.in-Some-difference.ensures in
    let entry_fits : SFits w128 c.in-Some-difference.entry = fits_from_range c.in-Some-difference.entry (rw rest.1 rest.0) in
    simp to_z-of_z (combined_entry-ok c.args.p c.args.x c.args.a c.args.y c.in-Some.left c.in-Some-product.right c.in-Some-difference.entry left.0 left.1 right.0 right.1 rest.0 rest.1)

pub returns-in-None-clause-value : goal.returns-in-None-clause-value
returns-in-None-clause-value c =
    let p : SFits w128 c.args.p = c.ranges.p in
    let x : SFits w128 c.args.x = c.ranges.x in
    let a : SFits w128 c.args.a = c.ranges.a in
    let y : SFits w128 c.args.y = c.ranges.y in
    let left : IsInRange (c.args.p *ℤ c.args.x) × (c.in-Some.left ≡ c.args.p *ℤ c.args.x) = simp to_z-of_z at c.in-Some.ensures in
    let right : IsInRange (c.args.a *ℤ c.args.y) × (c.in-Some-product.right ≡ c.args.a *ℤ c.args.y) = simp to_z-of_z at c.in-Some-product.ensures in
    let left_fits : SFits w128 c.in-Some.left = fits_from_range c.in-Some.left (rw left.1 left.0) in
    let right_fits : SFits w128 c.in-Some-product.right = fits_from_range c.in-Some-product.right (rw right.1 right.0) in
    let rest : IsInRange (c.in-Some.left -ℤ c.in-Some-product.right) → ⊥ = simp to_z-of_z at c.in-None.ensures in
    simp to_z-of_z (combined_entry-both c.args.p c.args.x c.args.a c.args.y c.in-Some.left c.in-Some-product.right left.0 left.1 right.0 right.1 rest)
