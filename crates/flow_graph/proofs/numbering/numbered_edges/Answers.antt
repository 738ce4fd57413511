use Rattle.flow_graph.specs.Judging.{IsEdge}
use Rattle.flow_graph.proofs.Graphs.{AllZip-more}
use Rattle.flow_graph.proofs.numbering.numbered_edges.Goals as goal

pub loop-edge-preserved : goal.loop-edge-preserved
loop-edge-preserved c =
    AllZip-more (IsEdge c.args.nodes.now) c.args.edges.now c.loop-edge.edge-index c.edge-item.result c.loop-edge.numbers c.push.new.self c.numbered.result
    c.loop-edge-test.true c.edge-item.is c.loop-edge.invariant c.numbered.ensures c.in_ok-push.ensures.ok
