use Rattle.scheduler_moves.specs.Closed.{HoldsBefore}
use Rattle.scheduler_moves.proofs.closing.closed_from.Given as goal

abbrev pub invariant-loop-number : goal.invariant-loop-number
invariant-loop-number l = HoldsBefore l.plant l.states l.number
