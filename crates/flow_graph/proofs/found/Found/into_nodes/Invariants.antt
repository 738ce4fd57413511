use Rattle.std.proofs.Common.{◌≡◌}
use Rattle.flow_graph.proofs.found.Found.into_nodes.Given as goal

abbrev pub invariant-loop-node : goal.invariant-loop-node
invariant-loop-node l = l.nodes ≡ l.yielded
