use Rattle.graph_runs.proofs.Walking.{runs_walk}
use Rattle.graph_runs.proofs.laws.runs_walk.Goals as goal

pub returns : goal.returns
returns c = runs_walk
