use Rattle.activation_windows.proofs.BeginningRows.{meets_beginning}
use Rattle.activation_windows.proofs.laws.meets_beginning.Goals as goal

pub returns : goal.returns
returns c = meets_beginning
