use Rattle.osek_machine.proofs.Times.{stuck_make_no_step}
use Rattle.osek_machine.proofs.laws.stuck_make_no_step.Goals as goal

pub returns : goal.returns
returns c = stuck_make_no_step
