use Rattle.demo_runs.proofs.Unbroken.{runs_have_no_broken_step}
use Rattle.demo_runs.proofs.laws.runs_have_no_broken_step.Goals as goal

pub returns : goal.returns
returns c = runs_have_no_broken_step
