use Rattle.std.proofs.Common.{◌≡◌}
use Rattle.flow_graph.specs.Graph.{entries_from}
use Rattle.flow_graph.proofs.building.first_entries.Given as goal

abbrev pub invariant-loop-place : goal.invariant-loop-place
invariant-loop-place l = l.entries ≡ entries_from l.image l.system 0 l.place
