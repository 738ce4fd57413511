use Rattle.osek_machine.proofs.Times.{runs_take_their_time}
use Rattle.osek_machine.proofs.laws.runs_take_their_time.Goals as goal

pub returns : goal.returns
returns c = runs_take_their_time
