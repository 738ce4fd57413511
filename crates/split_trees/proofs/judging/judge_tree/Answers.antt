use Rattle.std.proofs.Common.{sym, ◌∙◌}
use Rattle.split_trees.proofs.Missing.{columns_are_there, column_is_missing}
use Rattle.split_trees.proofs.judging.judge_tree.Goals as goal

pub judge_leaves-requires-clause-columns : goal.judge_leaves-requires-clause-columns
judge_leaves-requires-clause-columns c =
    columns_are_there c.args.rows.now c.column_count.result c.args.tree.now c.column_count.ensures (sym c.in-None.is ∙ c.missing_column.ensures)

pub returns-in-Some : goal.returns-in-Some
returns-in-Some c =
    column_is_missing c.args.rows.now c.column_count.result c.args.tree.now c.in-Some.column c.column_count.ensures (sym c.in-Some.is ∙ c.missing_column.ensures)
