use Rattle.flow_graph.proofs.WalkLaws.{steps_keep_bytes}
use Rattle.flow_graph.proofs.laws.steps_keep_bytes.Goals as goal

pub returns : goal.returns
returns c = λ program decoded. steps_keep_bytes program.code decoded
