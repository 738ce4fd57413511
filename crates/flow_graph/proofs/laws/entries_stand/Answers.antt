use Rattle.flow_graph.proofs.WalkLaws.{entries_stand}
use Rattle.flow_graph.proofs.laws.entries_stand.Goals as goal

pub returns : goal.returns
returns c = entries_stand
