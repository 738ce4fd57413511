use Rattle.activation_windows.proofs.LeavingRows.{meets_leaving}
use Rattle.activation_windows.proofs.laws.meets_leaving.Goals as goal

pub returns : goal.returns
returns c = meets_leaving
