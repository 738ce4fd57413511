use Rattle.replay.proofs.LapsContexts.{start_fits}
use Rattle.replay.proofs.laps.Laps.begin_if.Goals as goal

pub returns-in-Some-clause-fits : goal.returns-in-Some-clause-fits
returns-in-Some-clause-fits c = start_fits c.args.system.now c.args.timing.now _ c.args.self.now.contexts.items c.begin.new.self.contexts.items c.begin.ensures c.requires.fits
