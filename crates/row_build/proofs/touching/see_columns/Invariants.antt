use Rattle.std.proofs.Common.{map, take}
use Rattle.row_build.specs.Working.Numbered.{column_of}
use Rattle.row_build.specs.Working.Touching.{AreSeen}
use Rattle.row_build.proofs.touching.see_columns.Given as goal

abbrev pub invariant-loop-place : goal.invariant-loop-place
invariant-loop-place l = AreSeen l.plant (map (column_of l.states) (take l.place l.columns)) l.seen
