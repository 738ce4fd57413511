use Rattle.activation_windows.proofs.PassingRows.{meets_passing}
use Rattle.activation_windows.proofs.laws.meets_passing.Goals as goal

pub returns : goal.returns
returns c = meets_passing
