use Rattle.flow_graph.proofs.Law.{steps_follow_edges}
use Rattle.flow_graph.proofs.laws.steps_follow_edges.Goals as goal

pub returns : goal.returns
returns c = steps_follow_edges
