-- A player without a fault follows its run.
use Rattle.replay.proofs.Turns.{follows_in, still_player}
use Rattle.replay.proofs.player.Player.turn.Goals as goal

pub turn_on-requires-clause-following : goal.turn_on-requires-clause-following
turn_on-requires-clause-following c =
    (c.requires.player.0, follows_in c.args.plant.now c.args.schedule.now c.requires.player.0 c.args.self.now c.in-None.is c.requires.player.1)

pub returns-in-None-clause-gives : goal.returns-in-None-clause-gives
returns-in-None-clause-gives c = λ events stands.
    c.turn_on.ensures.gives events (follows_in c.args.plant.now c.args.schedule.now events c.args.self.now c.in-None.is stands)

pub returns-in-None-clause-player : goal.returns-in-None-clause-player
returns-in-None-clause-player c =
    still_player c.args.plant.now c.args.schedule.now c.requires.player.0 c.args.self.now c.turn_on.new.self c.turn_on.result c.requires.player.1
    (c.turn_on.ensures.gives c.requires.player.0 (follows_in c.args.plant.now c.args.schedule.now c.requires.player.0 c.args.self.now c.in-None.is c.requires.player.1))
