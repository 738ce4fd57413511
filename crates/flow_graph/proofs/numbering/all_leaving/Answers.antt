use Rattle.std.proofs.Common.{sym, subst}
use Rattle.std.specs.Prelude.{All}
use Rattle.flow_graph.specs.Graph.{edges_of}
use Rattle.flow_graph.specs.Judging.{IsLeaving}
use Rattle.flow_graph.specs.Working.Judged.{program_in}
use Rattle.flow_graph.specs.Working.Numbered.{LeadsInto}
use Rattle.flow_graph.proofs.Graphs.{AllZip-more}
use Rattle.flow_graph.proofs.numbering.all_leaving.Goals as goal

pub leaving_of-requires-clause-listed : goal.leaving_of-requires-clause-listed
leaving_of-requires-clause-listed c =
    subst (λ node. All (LeadsInto c.args.nodes.now) (edges_of (program_in c.args.program.now).code node)) (sym c.node-item.is)
    (c.requires.closed c.loop-node.node-index c.node-item.result c.loop-node-test.true)

pub loop-node-preserved : goal.loop-node-preserved
loop-node-preserved c =
    AllZip-more (IsLeaving (program_in c.args.program.now) c.args.nodes.now) c.args.nodes.now c.loop-node.node-index c.node-item.result
    c.loop-node.leaving c.push.new.self c.in_ok-leaving_of.field-0
    c.loop-node-test.true c.node-item.is c.loop-node.invariant c.in_ok-leaving_of.ensures c.in_ok-push.ensures.ok
