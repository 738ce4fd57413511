-- The lifted multipliers are an optimum of the full rows.
use Rattle.std.proofs.Common.{◌≡◌, List, ℤ, Ok, refl, sym, ap, ◌∙◌, rules}
use Rattle.std.proofs.lemmas.Int.{to_z-of_z}
use Rattle.std.specs.Int.{w128}
use mir.Val.{SFits}
use Rattle.row_squeeze.specs.Lift.{lifted_of}
use Rattle.row_squeeze.proofs.Parts.{lifted_by_parts, start-counted, start-small, small-in_range, squeezed_optimum}
use Rattle.row_squeeze.proofs.lift.lift_multipliers.Goals as goal

pub lift_vec-requires-clause-counted : goal.lift_vec-requires-clause-counted
lift_vec-requires-clause-counted c =
    start-counted c.args.rows.now c.args.links.now c.as_slice.result.now c.args.optimum.now.multipliers c.in_ok-start.start.items c.requires.links c.as_slice.ensures c.in_ok-start.ensures

pub lift_vec-requires-clause-multipliers : goal.lift_vec-requires-clause-multipliers
lift_vec-requires-clause-multipliers c =
    start-small c.as_slice.result.now c.args.optimum.now.multipliers c.in_ok-start.start.items c.requires.optimum.multipliers_small c.in_ok-start.ensures

pub from_vec-requires : goal.from_vec-requires
from_vec-requires c = small-in_range c.in-Ok.multipliers.items c.in-Ok.ensures.small

pub returns-in-Ok-clause-value : goal.returns-in-Ok-clause-value
returns-in-Ok-clause-value c =
    let fits : SFits w128 c.args.optimum.now.denominator = search rules in
    let ok = simp to_z-of_z at c.in-Ok.ensures.ok in
    let parts = lifted_by_parts c.args.rows.now c.args.links.now c.as_slice-2.result.now c.args.squeezed.now c.as_slice-places.result.now c.column_count-count.result c.args.optimum.now.denominator c.args.optimum.now.multipliers c.in_ok-start.start.items c.as_slice.result.now c.requires.squeezed c.as_slice-2.ensures c.as_slice.ensures c.as_slice-places.ensures c.column_count-count.ensures c.in_ok-start.ensures in
    let lift : lifted_of c.args.rows.now c.args.links.now c.args.optimum.now.denominator c.args.optimum.now.multipliers ≡ Ok c.from_vec.result = sym parts ∙ ok ∙ ap (λ (ms : List ℤ). Ok ms) (sym c.from_vec.ensures) in
    let fits_bound : SFits w128 c.args.optimum.now.bound = search rules in
    (lift, to_z-of_z w128 c.args.optimum.now.denominator fits, to_z-of_z w128 c.args.optimum.now.bound fits_bound, refl)

pub returns-in-Ok-clause-kept : goal.returns-in-Ok-clause-kept
returns-in-Ok-clause-kept c =
    let fits : SFits w128 c.args.optimum.now.denominator = search rules in
    let ok = simp to_z-of_z at c.in-Ok.ensures.ok in
    let parts = lifted_by_parts c.args.rows.now c.args.links.now c.as_slice-2.result.now c.args.squeezed.now c.as_slice-places.result.now c.column_count-count.result c.args.optimum.now.denominator c.args.optimum.now.multipliers c.in_ok-start.start.items c.as_slice.result.now c.requires.squeezed c.as_slice-2.ensures c.as_slice.ensures c.as_slice-places.ensures c.column_count-count.ensures c.in_ok-start.ensures in
    let lift : lifted_of c.args.rows.now c.args.links.now c.args.optimum.now.denominator c.args.optimum.now.multipliers ≡ Ok c.from_vec.result = sym parts ∙ ok ∙ ap (λ (ms : List ℤ). Ok ms) (sym c.from_vec.ensures) in
    (squeezed_optimum c.args.rows.now c.args.links.now c.args.squeezed.now c.args.optimum.now.denominator c.args.optimum.now.bound c.args.optimum.now.multipliers c.from_vec.result c.row_count-rows.ensures.rows c.requires.links c.requires.squeezed c.requires.optimum lift).1

pub returns-in-Ok-clause-optimum : goal.returns-in-Ok-clause-optimum
returns-in-Ok-clause-optimum c =
    let fits : SFits w128 c.args.optimum.now.denominator = search rules in
    let ok = simp to_z-of_z at c.in-Ok.ensures.ok in
    let parts = lifted_by_parts c.args.rows.now c.args.links.now c.as_slice-2.result.now c.args.squeezed.now c.as_slice-places.result.now c.column_count-count.result c.args.optimum.now.denominator c.args.optimum.now.multipliers c.in_ok-start.start.items c.as_slice.result.now c.requires.squeezed c.as_slice-2.ensures c.as_slice.ensures c.as_slice-places.ensures c.column_count-count.ensures c.in_ok-start.ensures in
    let lift : lifted_of c.args.rows.now c.args.links.now c.args.optimum.now.denominator c.args.optimum.now.multipliers ≡ Ok c.from_vec.result = sym parts ∙ ok ∙ ap (λ (ms : List ℤ). Ok ms) (sym c.from_vec.ensures) in
    let fits_bound : SFits w128 c.args.optimum.now.bound = search rules in
    simp to_z-of_z (squeezed_optimum c.args.rows.now c.args.links.now c.args.squeezed.now c.args.optimum.now.denominator c.args.optimum.now.bound c.args.optimum.now.multipliers c.from_vec.result c.row_count-rows.ensures.rows c.requires.links c.requires.squeezed c.requires.optimum lift).0

pub returns-in-Err-clause-value : goal.returns-in-Err-clause-value
returns-in-Err-clause-value c =
    let fits : SFits w128 c.args.optimum.now.denominator = search rules in
    let fits_value : SFits w128 c.in-Err.value = search rules in
    let err = simp to_z-of_z at c.in-Err.ensures.err in
    let parts = lifted_by_parts c.args.rows.now c.args.links.now c.as_slice-2.result.now c.args.squeezed.now c.as_slice-places.result.now c.column_count-count.result c.args.optimum.now.denominator c.args.optimum.now.multipliers c.in_ok-start.start.items c.as_slice.result.now c.requires.squeezed c.as_slice-2.ensures c.as_slice.ensures c.as_slice-places.ensures c.column_count-count.ensures c.in_ok-start.ensures in
    simp to_z-of_z (sym parts ∙ err)
