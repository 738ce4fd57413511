use Rattle.osek_machine.proofs.Times.{prefixes_are_declared}
use Rattle.osek_machine.proofs.laws.prefixes_are_declared.Goals as goal

pub returns : goal.returns
returns c = prefixes_are_declared
