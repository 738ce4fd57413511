use Rattle.std.proofs.Common.{◌≡◌, map, take}
use Rattle.row_build.specs.Columns.{goings}
use Rattle.split_search.specs.Working.Moves.{task_move}
use Rattle.split_search.proofs.moves.task_moves.Given as goal

abbrev pub invariant-loop-number : goal.invariant-loop-number
invariant-loop-number l = l.found ≡ map (task_move l.plant l.task) (goings l.plant (take l.number l.states))
