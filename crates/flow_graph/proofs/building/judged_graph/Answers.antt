use Rattle.std.proofs.Common.{subst}
use Rattle.flow_graph.specs.Working.Answered.{IsFirst}
use Rattle.flow_graph.specs.Working.Judged.{program_in}
use Rattle.flow_graph.proofs.Graphs.{closed_nodes, answers_first}
use Rattle.flow_graph.proofs.building.judged_graph.Goals as goal

pub graph_of-requires : goal.graph_of-requires
graph_of-requires c =
    let first : IsFirst (program_in c.args.program.now) c.args.nodes c.in_ok-fault.field-0 = subst
    (λ nodes. IsFirst (program_in c.args.program.now) nodes c.in_ok-fault.field-0) c.as_slice.ensures c.in_ok-fault.ensures in
    closed_nodes (program_in c.args.program.now) c.args.nodes c.requires
    (subst (λ fault. IsFirst (program_in c.args.program.now) c.args.nodes fault) c.in-None.is first)

pub returns-in-Some : goal.returns-in-Some
returns-in-Some c =
    let first : IsFirst (program_in c.args.program.now) c.args.nodes c.in_ok-fault.field-0 = subst
    (λ nodes. IsFirst (program_in c.args.program.now) nodes c.in_ok-fault.field-0) c.as_slice.ensures c.in_ok-fault.ensures in
    answers_first (program_in c.args.program.now) c.args.nodes c.in-Some.fault c.requires
    (subst (λ fault. IsFirst (program_in c.args.program.now) c.args.nodes fault) c.in-Some.is first)
