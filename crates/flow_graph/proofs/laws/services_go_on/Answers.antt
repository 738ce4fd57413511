use Rattle.flow_graph.proofs.WalkLaws.{services_go_on}
use Rattle.flow_graph.proofs.laws.services_go_on.Goals as goal

pub returns : goal.returns
returns c = services_go_on
