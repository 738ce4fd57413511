use Rattle.std.proofs.Common.{◌≡◌, map, take}
use Rattle.row_build.specs.Working.Kinds.{row_of}
use Rattle.row_build.specs.Working.Numbered.{column_of}
use Rattle.row_build.specs.Working.Pushed.{with_rows}
use Rattle.row_build.proofs.terms.push_rows.Given as goal

abbrev pub invariant-loop-number : goal.invariant-loop-number
invariant-loop-number l =
    l.rows ≡ with_rows (map (column_of l.states) l.columns) l.fn.rows (map (row_of l.plant l.states l.instances l.task) (take l.number l.kinds))
