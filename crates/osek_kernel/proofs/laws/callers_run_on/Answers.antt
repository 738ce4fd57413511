use Rattle.osek_kernel.proofs.Serves.{callers_run_on}
use Rattle.osek_kernel.proofs.laws.callers_run_on.Goals as goal

pub returns : goal.returns
returns c = callers_run_on
