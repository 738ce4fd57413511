use Rattle.std.proofs.Common.{map, take}
use Rattle.row_build.specs.Working.Growing.{Adds}
use Rattle.row_build.specs.Working.Numbered.{IsMove, going_of, state_at}
use Rattle.row_build.proofs.goings.push_moves.Given as goal

abbrev pub invariant-loop-place : goal.invariant-loop-place
invariant-loop-place l =
    Adds (going_of l.states) (IsMove l.states) l.fn.found l.found (map (λ made. record { from = state_at l.states l.number; move = made }) (take l.place l.moves))
