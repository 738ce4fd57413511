use Rattle.promised_runs.proofs.Apart.{takings_follow}
use Rattle.promised_runs.proofs.laws.takings_follow.Goals as goal

pub returns : goal.returns
returns c = takings_follow
