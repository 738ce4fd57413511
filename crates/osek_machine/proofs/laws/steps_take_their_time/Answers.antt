use Rattle.osek_machine.proofs.Times.{steps_take_their_time}
use Rattle.osek_machine.proofs.laws.steps_take_their_time.Goals as goal

pub returns : goal.returns
returns c = steps_take_their_time
