use Rattle.osek_kernel.proofs.Theorems.{the_first_runs}
use Rattle.osek_kernel.proofs.laws.the_first_runs.Goals as goal

pub returns : goal.returns
returns c = the_first_runs
