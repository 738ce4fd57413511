use Rattle.osek_machine.specs.Machine.{state_of}
use Rattle.osek_machine.proofs.Kept.{running_exists}
use Rattle.osek_machine.proofs.machine.Machine.call.Goals as goal

pub place-requires-clause-exists : goal.place-requires-clause-exists
place-requires-clause-exists c = running_exists c.args.system.now (state_of c.args.self.now) c.args.context c.requires.fits.room c.requires.running
