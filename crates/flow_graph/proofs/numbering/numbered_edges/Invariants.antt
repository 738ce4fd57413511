use Rattle.std.proofs.Common.{take}
use Rattle.std.specs.List.{AllZip}
use Rattle.flow_graph.specs.Judging.{IsEdge}
use Rattle.flow_graph.proofs.numbering.numbered_edges.Given as goal

abbrev pub invariant-loop-edge : goal.invariant-loop-edge
invariant-loop-edge l = AllZip (IsEdge l.nodes) (take l.edge-index l.edges) l.numbers
