use Rattle.std.proofs.Common.{true, false}
use Rattle.osek_machine.specs.Machine.{state_of}
use Rattle.replay.proofs.Standings.{active_by, expired_starts}
use Rattle.replay.proofs.moves.activated_by.Goals as goal

pub returns-in-Some : goal.returns-in-Some
returns-in-Some c =
    expired_starts (state_of c.args.machine.now).kernel c.args.task true
    (active_by c.args.plant.now.image c.args.plant.now.system c.args.machine.now c.args.task _ c.requires.fits c.requires.exists c.in-Some.ensures)

pub returns-in-None : goal.returns-in-None
returns-in-None c =
    expired_starts (state_of c.args.machine.now).kernel c.args.task false
    (active_by c.args.plant.now.image c.args.plant.now.system c.args.machine.now c.args.task _ c.requires.fits c.requires.exists c.in-None.ensures)
