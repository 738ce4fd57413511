use Rattle.std.proofs.Common.{ℕ, ◌<◌, List, All, length, sym, ◌∙◌, subst}
use Rattle.whole_rows.specs.Rows.{RowsData}
use Rattle.split_search.specs.Takes.{take_columns}
use Rattle.split_search.proofs.TakePlaces.{rows_exist, take_columns-exist}
use Rattle.split_search.proofs.finding.found_tree.Goals as goal

pub find_tree-requires-clause-columns : goal.find_tree-requires-clause-columns
find_tree-requires-clause-columns c =
    let exist = take_columns-exist c.args.plant.now c.args.states.now c.args.task in
    subst (λ (columns : List ℕ). All (λ column. column < length c.in_ok-rows.rows.costs) columns) (sym (c.as_slice.ensures ∙ c.in_ok-columns.ensures))
    (subst (λ (d : RowsData). All (λ column. column < length d.costs) (take_columns c.args.plant.now c.args.states.now c.args.task)) (sym c.in_ok-rows.ensures.rows) exist)

pub returns-clause-lawful : goal.returns-clause-lawful
returns-clause-lawful c =
    c.find_tree.ensures.lawful (subst (λ (d : RowsData). 0 < length d.rows) (sym c.in_ok-rows.ensures.rows) (rows_exist c.args.plant.now c.args.states.now c.args.task))
