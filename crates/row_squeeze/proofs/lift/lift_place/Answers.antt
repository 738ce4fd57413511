-- One column more.
use Rattle.std.proofs.Common.{length, rules}
use Rattle.std.proofs.lemmas.Int.{to_z-of_z}
use Rattle.std.specs.Int.{w128}
use mir.Val.{SFits}
use Rattle.row_squeeze.specs.Lift.{lifted, rows_of_chain, rows_of_end}
use Rattle.row_squeeze.proofs.Chain.{range_next, range_stops}
use Rattle.row_squeeze.proofs.lift.lift_place.Goals as goal

pub returns-in-Err-clause-err : goal.returns-in-Err-clause-err
returns-in-Err-clause-err c =
    let fits : SFits w128 c.args.denominator = search rules in
    let fits_value : SFits w128 c.in-Err.value = search rules in
    let rest = simp to_z-of_z at c.loop-column.invariant.rest in
    let value = simp to_z-of_z at c.in-Err.ensures.err in
    simp to_z-of_z (range_stops c.args.rows.now c.args.links.now c.args.denominator c.loop-column.multipliers (lifted c.args.rows.now c.args.links.now c.args.denominator c.args.multipliers.now (rows_of_chain c.args.links.now c.args.places.now c.args.place)) (rows_of_end c.args.links.now c.args.places.now c.args.place) c.loop-column.column (length c.args.places.now) c.in-Err.value c.loop-column-test.true value rest)

pub loop-column-preserved : goal.loop-column-preserved
loop-column-preserved c =
    let fits : SFits w128 c.args.denominator = search rules in
    let rest = simp to_z-of_z at c.loop-column.invariant.rest in
    let ok = simp to_z-of_z at c.in_default.ensures.ok in
    record {
      rest = simp to_z-of_z (range_next c.args.rows.now c.args.links.now c.args.denominator c.loop-column.multipliers c.lift_end.new.multipliers (lifted c.args.rows.now c.args.links.now c.args.denominator c.args.multipliers.now (rows_of_chain c.args.links.now c.args.places.now c.args.place)) (rows_of_end c.args.links.now c.args.places.now c.args.place) c.loop-column.column (length c.args.places.now) c.loop-column-test.true ok rest);
      small = c.in_default.ensures.small;
    }
