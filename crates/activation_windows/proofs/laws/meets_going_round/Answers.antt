use Rattle.activation_windows.proofs.GoingRoundRows.{meets_going_round}
use Rattle.activation_windows.proofs.laws.meets_going_round.Goals as goal

pub returns : goal.returns
returns c = meets_going_round
