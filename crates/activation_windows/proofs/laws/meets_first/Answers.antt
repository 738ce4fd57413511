use Rattle.activation_windows.proofs.LeavingRows.{meets_first}
use Rattle.activation_windows.proofs.laws.meets_first.Goals as goal

pub returns : goal.returns
returns c = meets_first
