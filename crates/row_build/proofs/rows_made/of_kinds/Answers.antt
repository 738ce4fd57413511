use Rattle.std.proofs.Common.{map}
use Rattle.row_build.specs.Working.Kinds.{row_of}
use Rattle.row_build.specs.Working.Numbered.{column_of}
use Rattle.row_build.proofs.ColumnLists.{rows_are}
use Rattle.row_build.proofs.rows_made.of_kinds.Goals as goal

pub returns : goal.returns
returns c =
    let plant = c.args.plant.now in let states = c.args.states.now in
    rows_are plant states c.args.task (map (column_of states) c.args.columns.now) (map (row_of plant states c.args.instances.now c.args.task) c.args.kinds.now)
    c.in_ok-costs.costs c.in_ok-rows.rows c.push_rows.new.rows c.requires.columns.shows c.requires.kinds.shows c.in_ok-costs.ensures c.in_ok-rows.ensures
    c.in_ok-push_rows.ensures
