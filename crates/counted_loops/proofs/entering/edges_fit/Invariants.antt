-- All edges so far fit.
use Rattle.std.proofs.Common.{◌≡◌, ◌<◌, ℕ, Some, slice_get}
use Rattle.flow_graph.specs.declared.edge.Edge.{Edge}
use Rattle.counted_loops.specs.Working.Entering.{EdgeFits}
use Rattle.counted_loops.proofs.entering.edges_fit.Given as goal

abbrev pub invariant-loop-edge : goal.invariant-loop-edge
invariant-loop-edge l = (k : ℕ) (edge : Edge ℕ) → k < l.edge-index → slice_get l.edges k ≡ Some edge → EdgeFits l.nodes l.front l.source edge
