use Rattle.promised_runs.proofs.Apart.{takings_lie_apart}
use Rattle.promised_runs.proofs.laws.takings_lie_apart.Goals as goal

pub returns : goal.returns
returns c = takings_lie_apart
