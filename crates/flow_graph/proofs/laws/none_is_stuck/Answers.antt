use Rattle.flow_graph.proofs.WalkLaws.{none_is_stuck}
use Rattle.flow_graph.proofs.laws.none_is_stuck.Goals as goal

pub returns : goal.returns
returns c = none_is_stuck
