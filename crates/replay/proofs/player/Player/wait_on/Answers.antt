-- Time passes in the run too.
use Rattle.replay.proofs.Turns.{waits_on}
use Rattle.replay.proofs.player.Player.wait_on.Goals as goal

pub returns : goal.returns
returns c = λ events follows.
    waits_on c.args.plant.now c.args.schedule.now events c.args.self.now c.wait.new.self c.args.cycles c.moment.result c.requires.lawful follows c.requires.next c.moment.ensures c.wait.ensures
