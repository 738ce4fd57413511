use Rattle.flow_graph.proofs.WalkLaws.{walks_stay_on_graph}
use Rattle.flow_graph.proofs.laws.walks_stay_on_graph.Goals as goal

pub returns : goal.returns
returns c = walks_stay_on_graph
