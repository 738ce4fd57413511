use Rattle.std.proofs.Common.{map, take}
use Rattle.row_build.specs.Columns as words
use Rattle.row_build.specs.Working.Growing.{Adds}
use Rattle.row_build.specs.Working.Numbered.{IsColumn, column_of}
use Rattle.row_build.proofs.columns.push_positions.Given as goal

abbrev pub invariant-loop-number : goal.invariant-loop-number
invariant-loop-number l =
    Adds (column_of l.states) (IsColumn l.plant l.states) l.fn.found l.found (map words.Stands (take l.number l.nodes))
