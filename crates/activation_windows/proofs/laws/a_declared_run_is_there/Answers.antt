use Rattle.activation_windows.proofs.Samples.Bounded.{has_declared_run}
use Rattle.activation_windows.proofs.laws.a_declared_run_is_there.Goals as goal

pub returns : goal.returns
returns c = has_declared_run
