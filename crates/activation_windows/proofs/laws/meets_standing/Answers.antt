use Rattle.activation_windows.proofs.StandingRows.{meets_standing}
use Rattle.activation_windows.proofs.laws.meets_standing.Goals as goal

pub returns : goal.returns
returns c = meets_standing
