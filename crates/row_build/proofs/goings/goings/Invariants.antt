use Rattle.std.proofs.Common.{[], take}
use Rattle.std.specs.List.{flat_map}
use Rattle.row_build.specs.Columns.{goings_from}
use Rattle.row_build.specs.Working.Growing.{Adds}
use Rattle.row_build.specs.Working.Numbered.{IsMove, going_of}
use Rattle.row_build.proofs.goings.goings.Given as goal

abbrev pub invariant-loop-number : goal.invariant-loop-number
invariant-loop-number l =
    Adds (going_of l.states) (IsMove l.states) [] l.found (flat_map (goings_from l.plant) (take l.number l.states))
