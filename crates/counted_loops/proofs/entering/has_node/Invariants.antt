-- No node so far is there.
use Rattle.std.proofs.Common.{◌≡◌, ◌<◌, ℕ, Some, false, slice_get}
use Rattle.flow_graph.specs.declared.node.Node.{Node}
use Rattle.counted_loops.specs.Working.Entering as entering
use Rattle.counted_loops.proofs.entering.has_node.Given as goal

abbrev pub invariant-loop-node : goal.invariant-loop-node
invariant-loop-node l = (k : ℕ) (node : Node) → k < l.node-index → slice_get l.flow.nodes k ≡ Some node → entering.has l.here node.address ≡ false
