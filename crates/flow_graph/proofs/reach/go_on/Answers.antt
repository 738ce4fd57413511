use Rattle.std.proofs.Common.{◌∙◌}
use Rattle.std.proofs.lemmas.Result.{IfOk-weaker}
use Rattle.flow_graph.specs.Working.Judged.{program_in}
use Rattle.flow_graph.proofs.Reaching.{goes_on}
use Rattle.flow_graph.proofs.reach.go_on.Goals as goal

pub returns : goal.returns
returns c =
    rw c.get.ensures
    (IfOk-weaker c.add_targets.result _ _
    (λ after grows. goes_on (program_in c.args.program.now) c.get.result.now c.as_slice.result.now c.args.found after
    (c.as_slice.ensures ∙ c.in_ok-edges.ensures) grows) c.add_targets.ensures)
