use Rattle.flow_graph.proofs.WalkLaws.{ecalls_serve}
use Rattle.flow_graph.proofs.laws.ecalls_serve.Goals as goal

pub returns : goal.returns
returns c = ecalls_serve
