use Rattle.promised_runs.proofs.Apart.{first_takings_lie_apart}
use Rattle.promised_runs.proofs.laws.first_takings_lie_apart.Goals as goal

pub returns : goal.returns
returns c = first_takings_lie_apart
