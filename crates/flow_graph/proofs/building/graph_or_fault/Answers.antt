use Rattle.std.proofs.Common.{arith}
use Rattle.flow_graph.specs.Working.Judged.{program_in}
use Rattle.flow_graph.proofs.Graphs.{answers_large}
use Rattle.flow_graph.proofs.building.graph_or_fault.Goals as goal

pub returns-then-len-gt-MOST_NODES : goal.returns-then-len-gt-MOST_NODES
returns-then-len-gt-MOST_NODES c =
    answers_large (program_in c.args.program.now) c.in_ok-nodes.nodes c.whole.result c.whole.ensures c.in_ok-nodes.ensures (omega arith)
