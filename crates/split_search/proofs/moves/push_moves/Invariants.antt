use Rattle.std.proofs.Common.{◌≡◌, ◌++◌, map, take}
use Rattle.split_search.specs.Working.Moves.{task_move}
use Rattle.split_search.proofs.moves.push_moves.Given as goal

abbrev pub invariant-loop-place : goal.invariant-loop-place
invariant-loop-place l =
    l.found ≡ l.initial.found ++ map (task_move l.plant l.task) (map (λ move. record { from = l.state; move = move }) (take l.place l.made))
