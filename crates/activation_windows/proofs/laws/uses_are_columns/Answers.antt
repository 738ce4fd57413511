use Rattle.activation_windows.proofs.Uses.{uses_are_columns}
use Rattle.activation_windows.proofs.laws.uses_are_columns.Goals as goal

pub returns : goal.returns
returns c = uses_are_columns
