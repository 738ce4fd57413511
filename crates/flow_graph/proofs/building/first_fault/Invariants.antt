use Rattle.flow_graph.specs.Working.Answered.{HaveNone}
use Rattle.flow_graph.specs.Working.Judged.{program_in}
use Rattle.flow_graph.proofs.building.first_fault.Given as goal

abbrev pub invariant-loop-node : goal.invariant-loop-node
invariant-loop-node l = HaveNone (program_in l.program) l.nodes l.node-index
