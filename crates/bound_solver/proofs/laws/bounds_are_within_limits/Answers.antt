use Rattle.bound_solver.proofs.TaskBounds.{bound_within}
use Rattle.bound_solver.proofs.laws.bounds_are_within_limits.Goals as goal

pub returns : goal.returns
returns c = bound_within c.rows_are_small.ensures
