use Rattle.std.proofs.Common.{take}
use Rattle.flow_graph.specs.Working.Reached.{GrowsBy}
use Rattle.flow_graph.proofs.reach.add_targets.Given as goal

abbrev pub invariant-loop-edge : goal.invariant-loop-edge
invariant-loop-edge l = GrowsBy (take l.edge-index l.edges) l.initial.found l.found
