use Rattle.std.proofs.Common.{◌≡◌, ◌++◌}
use Rattle.scheduler_moves.proofs.succeeding.joined.Given as goal

abbrev pub invariant-loop-taken : goal.invariant-loop-taken
invariant-loop-taken l = l.first ≡ l.fn.first ++ l.yielded
