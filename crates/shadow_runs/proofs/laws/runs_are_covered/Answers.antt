use Rattle.shadow_runs.proofs.Covering.{runs_are_covered}
use Rattle.shadow_runs.proofs.laws.runs_are_covered.Goals as goal

pub returns : goal.returns
returns c = runs_are_covered
