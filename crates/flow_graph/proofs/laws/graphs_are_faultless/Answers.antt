use Rattle.flow_graph.proofs.WalkLaws.{graph_is_faultless}
use Rattle.flow_graph.proofs.laws.graphs_are_faultless.Goals as goal

pub returns : goal.returns
returns c = graph_is_faultless
