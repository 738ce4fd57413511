use Rattle.osek_machine.proofs.Times.{runs_keep_room}
use Rattle.osek_machine.proofs.laws.runs_keep_room.Goals as goal

pub returns : goal.returns
returns c = runs_keep_room
