use Rattle.std.proofs.Common.{ℕ, ◌∙◌, ap}
use Rattle.whole_rows.specs.Rows.{RowsData}
use Rattle.cut_search.specs.Nodes.{limit_rows, with_limit_rows}
use Rattle.cut_search.proofs.NodeRows.{node_rows-are}
use Rattle.cut_search.proofs.nodes.node_rows.Goals as goal

pub returns : goal.returns
returns c =
    let d = c.args.base.now in
    let limits = c.args.limits.now in
    let costs_are = ap (λ (r : RowsData). r.costs) c.in_ok-rows.ensures ∙ c.in_ok-costs.ensures in
    c.in_ok-push_limits.ensures
    ∙ ap (λ (n : ℕ). with_limit_rows c.push_base.new.rows (limit_rows n c.args.limits.now)) c.column_count.ensures
    ∙ node_rows-are d limits c.in_ok-rows.rows.costs c.push_base.new.rows c.row_count-rows.ensures.rows costs_are c.in_ok-push_base.ensures
