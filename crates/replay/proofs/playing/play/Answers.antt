-- The rounds begin with no response, and the open ones come last.
use Rattle.std.proofs.Common.{[]}
use Rattle.replay.proofs.Rounds.{plays_whole}
use Rattle.replay.proofs.playing.play.Goals as goal

pub play_on-requires-clause-playing : goal.play_on-requires-clause-playing
play_on-requires-clause-playing c =
    ([], record { stands = c.in_ok-player.ensures.stands; sound = c.in_ok-player.ensures.sound; told = c.new-responses.ensures })

pub returns : goal.returns
returns c =
    plays_whole c.args.plant.now c.args.schedule.now c.play_on.new.player c.play_on.new.responses c.push_open.new.responses c.in_ok-play_on.ensures c.in_ok-push_open.ensures
