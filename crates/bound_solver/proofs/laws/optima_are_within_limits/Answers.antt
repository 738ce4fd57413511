use Rattle.bound_solver.proofs.Limits.{optimum_within}
use Rattle.bound_solver.proofs.laws.optima_are_within_limits.Goals as goal

pub returns : goal.returns
returns c = optimum_within
