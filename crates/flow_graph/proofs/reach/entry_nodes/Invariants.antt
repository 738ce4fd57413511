use Rattle.flow_graph.specs.Working.Reached.{HasEntries}
use Rattle.flow_graph.proofs.reach.entry_nodes.Given as goal

abbrev pub invariant-loop-context : goal.invariant-loop-context
invariant-loop-context l = HasEntries l.entries l.context l.found
