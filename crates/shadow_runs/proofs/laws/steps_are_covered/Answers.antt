use Rattle.shadow_runs.proofs.Covering.{steps_are_covered}
use Rattle.shadow_runs.proofs.laws.steps_are_covered.Goals as goal

pub returns : goal.returns
returns c = steps_are_covered
