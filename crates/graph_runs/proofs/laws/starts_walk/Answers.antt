use Rattle.graph_runs.proofs.Walking.{starts_walk}
use Rattle.graph_runs.proofs.laws.starts_walk.Goals as goal

pub returns : goal.returns
returns c = starts_walk
