use Rattle.std.proofs.Common.{sym, ◌∙◌}
use Rattle.flow_graph.specs.Working.Judged.{program_in}
use Rattle.flow_graph.proofs.Graphs.{answers_early}
use Rattle.flow_graph.proofs.building.build_over.Goals as goal

pub returns-in-Some : goal.returns-in-Some
returns-in-Some c = answers_early (program_in c.args.program.now) _ c.in-Some.fault (sym c.in_ok-fault.ensures ∙ c.in-Some.is)
