use Rattle.std.proofs.Common.{map, take}
use Rattle.row_build.specs.Columns as words
use Rattle.row_build.specs.Working.Growing.{Adds}
use Rattle.row_build.specs.Working.Numbered.{IsColumn, column_of}
use Rattle.row_build.proofs.columns.push_alongs.Given as goal

abbrev pub invariant-loop-place : goal.invariant-loop-place
invariant-loop-place l =
    Adds (column_of l.states) (IsColumn l.plant l.states) l.fn.found l.found
    (map words.Goes (words.alongs_at l.node 0 (take l.place l.edges)))
