-- The chains fit the rows, and the parts are those of the squeezed rows.
use Rattle.std.proofs.Common.{length, ap, ◌∙◌}
use Rattle.whole_rows.specs.Rows.{RowsData}
use Rattle.row_squeeze.proofs.Fitting.{links_lie, chains_are, chains_fit, is_squeezed}
use Rattle.row_squeeze.proofs.Merging.{merged-length}
use Rattle.row_squeeze.proofs.squeezing.squeeze.Goals as goal

pub chains_of-requires : goal.chains_of-requires
chains_of-requires c =
    links_lie c.args.rows.now c.args.links.now c.as_slice.result.now c.column_count.result c.requires.links c.as_slice.ensures c.column_count.ensures

pub merged_costs-requires-clause-chains : goal.merged_costs-requires-clause-chains
merged_costs-requires-clause-chains c =
    chains_fit c.args.rows.now c.args.links.now c.in_ok-chains.chains (chains_are c.args.rows.now c.args.links.now c.as_slice.result.now c.column_count.result c.in_ok-chains.chains c.as_slice.ensures c.column_count.ensures c.in_ok-chains.ensures.count c.in_ok-chains.ensures.places)

pub push_kept-requires-clause-chains : goal.push_kept-requires-clause-chains
push_kept-requires-clause-chains c =
    chains_fit c.args.rows.now c.args.links.now c.in_ok-chains.chains (chains_are c.args.rows.now c.args.links.now c.as_slice.result.now c.column_count.result c.in_ok-chains.chains c.as_slice.ensures c.column_count.ensures c.in_ok-chains.ensures.count c.in_ok-chains.ensures.places)

pub push_kept-requires-clause-width : goal.push_kept-requires-clause-width
push_kept-requires-clause-width c =
    ap (λ (r : RowsData). length r.costs) c.in_ok-squeezed.ensures ∙ ap length c.in_ok-costs.ensures ∙ merged-length c.in_ok-chains.chains.count c.in_ok-chains.chains.places.items c.args.rows.now.costs

pub returns : goal.returns
returns c =
    is_squeezed c.args.rows.now c.args.links.now c.as_slice-2.result.now c.in_ok-chains.chains (record { rows = c.push_kept.new.squeezed; column_of = c.from_vec.result; kept_rows = c.in_ok-kept_rows.kept_rows }) c.in_ok-squeezed.squeezed.costs (chains_are c.args.rows.now c.args.links.now c.as_slice.result.now c.column_count.result c.in_ok-chains.chains c.as_slice.ensures c.column_count.ensures c.in_ok-chains.ensures.count c.in_ok-chains.ensures.places) c.as_slice-2.ensures (ap (λ (r : RowsData). r.costs) c.in_ok-squeezed.ensures ∙ c.in_ok-costs.ensures) c.in_ok-kept_rows.ensures.squeezed c.from_vec.ensures c.in_ok-kept_rows.ensures.kept
