-- One link more.
use Rattle.std.proofs.Common.{◌-◌, length, sym, ◌∙◌, rules}
use Rattle.std.proofs.lemmas.Int.{to_z-of_z}
use Rattle.std.specs.Int.{w128}
use mir.Val.{SFits}
use Rattle.row_squeeze.specs.Lift.{lifted, rows_from}
use Rattle.row_squeeze.proofs.Chain.{leaves, chain_next, chain_stops, chain_ends}
use Rattle.row_squeeze.proofs.lift.lift_chain.Goals as goal

pub lift_row-requires-clause-row : goal.lift_row-requires-clause-row
lift_row-requires-clause-row c =
    (leaves c.args.rows.now c.args.links.now c.loop-passed.column c.in-Some.step c.requires.links (sym c.leaving.ensures ∙ c.in-Some.is)).row_within

pub lift_row-requires-clause-column : goal.lift_row-requires-clause-column
lift_row-requires-clause-column c =
    (leaves c.args.rows.now c.args.links.now c.loop-passed.column c.in-Some.step c.requires.links (sym c.leaving.ensures ∙ c.in-Some.is)).column_within

pub lift_row-requires-clause-others : goal.lift_row-requires-clause-others
lift_row-requires-clause-others c =
    (leaves c.args.rows.now c.args.links.now c.loop-passed.column c.in-Some.step c.requires.links (sym c.leaving.ensures ∙ c.in-Some.is)).others

pub returns-in-Err-clause-err : goal.returns-in-Err-clause-err
returns-in-Err-clause-err c =
    let fits : SFits w128 c.args.denominator = search rules in
    let fits_value : SFits w128 c.in-Err.value = search rules in
    let found = sym c.leaving.ensures ∙ c.in-Some.is in
    let left = leaves c.args.rows.now c.args.links.now c.loop-passed.column c.in-Some.step c.requires.links found in
    let rest = simp to_z-of_z at c.loop-passed.invariant.rest in
    let value = simp to_z-of_z at c.in-Err.ensures.err in
    simp to_z-of_z (chain_stops c.args.rows.now c.args.links.now c.args.denominator c.loop-passed.multipliers (lifted c.args.rows.now c.args.links.now c.args.denominator c.args.multipliers.now (rows_from (length c.args.links.now) c.args.links.now c.args.end)) c.loop-passed._passed c.loop-passed.column c.in-Some.step c.in-Err.value c.loop-passed-test.true found left.outgoing c.in-Err.ensures.large value rest)

pub returns-in-None-clause-ok : goal.returns-in-None-clause-ok
returns-in-None-clause-ok c =
    let fits : SFits w128 c.args.denominator = search rules in
    let rest = simp to_z-of_z at c.loop-passed.invariant.rest in
    chain_ends c.args.rows.now c.args.links.now c.args.denominator c.loop-passed.multipliers (lifted c.args.rows.now c.args.links.now c.args.denominator c.args.multipliers.now (rows_from (length c.args.links.now) c.args.links.now c.args.end)) (length c.args.links.now - c.loop-passed._passed) c.loop-passed.column (sym c.leaving.ensures ∙ c.in-None.is) rest

pub loop-passed-preserved : goal.loop-passed-preserved
loop-passed-preserved c =
    let fits : SFits w128 c.args.denominator = search rules in
    let found = sym c.leaving.ensures ∙ c.in-Some.is in
    let left = leaves c.args.rows.now c.args.links.now c.loop-passed.column c.in-Some.step c.requires.links found in
    let rest = simp to_z-of_z at c.loop-passed.invariant.rest in
    let ok = simp to_z-of_z at c.in_default.ensures.ok in
    let not_large = simp to_z-of_z at c.in_default.ensures.not_large in
    record {
      rest = simp to_z-of_z (chain_next c.args.rows.now c.args.links.now c.args.denominator c.loop-passed.multipliers c.lift_row.new.multipliers (lifted c.args.rows.now c.args.links.now c.args.denominator c.args.multipliers.now (rows_from (length c.args.links.now) c.args.links.now c.args.end)) c.loop-passed._passed c.loop-passed.column c.in-Some.step c.loop-passed-test.true found left.outgoing not_large ok rest);
      small = c.in_default.ensures.small;
    }
