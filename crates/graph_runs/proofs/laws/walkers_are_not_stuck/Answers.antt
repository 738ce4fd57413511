use Rattle.graph_runs.proofs.Walking.{walkers_are_not_stuck}
use Rattle.graph_runs.proofs.laws.walkers_are_not_stuck.Goals as goal

pub returns : goal.returns
returns c = walkers_are_not_stuck
