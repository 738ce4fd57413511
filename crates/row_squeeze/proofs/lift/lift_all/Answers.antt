-- One chain more.
use Rattle.std.proofs.Common.{rules}
use Rattle.std.proofs.lemmas.Int.{to_z-of_z}
use Rattle.std.specs.Int.{w128}
use mir.Val.{SFits}
use Rattle.row_squeeze.specs.Lift.{lifted, rows_of_chain, lift_from}
use Rattle.row_squeeze.proofs.Chain.{range_next, range_stops}
use Rattle.row_squeeze.proofs.lift.lift_all.Goals as goal

pub returns-in-Err-clause-err : goal.returns-in-Err-clause-err
returns-in-Err-clause-err c =
    let fits : SFits w128 c.args.denominator = search rules in
    let fits_value : SFits w128 c.in-Err.value = search rules in
    let rest = simp to_z-of_z at c.loop-place.invariant.rest in
    let value = simp to_z-of_z at c.in-Err.ensures.err in
    simp to_z-of_z (range_stops c.args.rows.now c.args.links.now c.args.denominator c.loop-place.multipliers (lifted c.args.rows.now c.args.links.now c.args.denominator c.args.multipliers.now (lift_from c.args.links.now c.args.places.now c.args.count)) (rows_of_chain c.args.links.now c.args.places.now) c.loop-place.place c.args.count c.in-Err.value c.loop-place-test.true value rest)

pub loop-place-preserved : goal.loop-place-preserved
loop-place-preserved c =
    let fits : SFits w128 c.args.denominator = search rules in
    let rest = simp to_z-of_z at c.loop-place.invariant.rest in
    let ok = simp to_z-of_z at c.in_default.ensures.ok in
    record {
      rest = simp to_z-of_z (range_next c.args.rows.now c.args.links.now c.args.denominator c.loop-place.multipliers c.lift_place.new.multipliers (lifted c.args.rows.now c.args.links.now c.args.denominator c.args.multipliers.now (lift_from c.args.links.now c.args.places.now c.args.count)) (rows_of_chain c.args.links.now c.args.places.now) c.loop-place.place c.args.count c.loop-place-test.true ok rest);
      small = c.in_default.ensures.small;
    }
