use Rattle.graph_runs.proofs.Walking.{steps_walk_on}
use Rattle.graph_runs.proofs.laws.steps_walk_on.Goals as goal

pub returns : goal.returns
returns c = steps_walk_on
