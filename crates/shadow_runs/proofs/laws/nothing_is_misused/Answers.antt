use Rattle.shadow_runs.proofs.Covering.{nothing_is_misused}
use Rattle.shadow_runs.proofs.laws.nothing_is_misused.Goals as goal

pub returns : goal.returns
returns c = nothing_is_misused
