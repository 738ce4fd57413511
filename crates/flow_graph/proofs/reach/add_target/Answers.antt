use Rattle.std.proofs.lemmas.Result.{IfOk-weaker}
use Rattle.flow_graph.proofs.Reaching.{one_target, no_target}
use Rattle.flow_graph.proofs.reach.add_target.Goals as goal

pub returns-in-Some : goal.returns-in-Some
returns-in-Some c = IfOk-weaker c.add.result _ _ (λ after adds. one_target c.args.edge.now c.in-Some.node c.args.found after c.in-Some.is adds) c.add.ensures

pub returns-in-None : goal.returns-in-None
returns-in-None c = no_target c.args.edge.now c.args.found c.in-None.is
