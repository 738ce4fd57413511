use Rattle.std.proofs.Common.{◌≡◌, map, take}
use Rattle.scheduler_moves.specs.Moves.{running_in}
use Rattle.row_build.proofs.numbers.running.Given as goal

abbrev pub invariant-loop-state : goal.invariant-loop-state
invariant-loop-state l = l.running ≡ map (running_in l.plant) (take l.state-index l.states)
