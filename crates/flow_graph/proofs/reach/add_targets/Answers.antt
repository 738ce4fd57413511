use Rattle.flow_graph.proofs.Reaching.{more_targets}
use Rattle.flow_graph.proofs.reach.add_targets.Goals as goal

pub loop-edge-preserved : goal.loop-edge-preserved
loop-edge-preserved c =
    more_targets c.args.edges.now c.loop-edge.edge-index c.edge-item.result c.args.found c.loop-edge.found c.in_ok-found.found
    c.loop-edge-test.true c.edge-item.is c.loop-edge.invariant c.in_ok-found.ensures
