use Rattle.activation_windows.proofs.ArrivingRows.{meets_arriving}
use Rattle.activation_windows.proofs.laws.meets_arriving.Goals as goal

pub returns : goal.returns
returns c = meets_arriving
