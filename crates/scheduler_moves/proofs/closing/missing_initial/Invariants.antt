use Rattle.scheduler_moves.specs.Closed.{StartsBelow}
use Rattle.scheduler_moves.proofs.closing.missing_initial.Given as goal

abbrev pub invariant-loop-mode : goal.invariant-loop-mode
invariant-loop-mode l = StartsBelow l.plant l.states l.mode
