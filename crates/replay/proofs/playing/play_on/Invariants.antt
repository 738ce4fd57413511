use Rattle.std.proofs.Common.{◌-◌, ◌^◌, ◌+◌}
use Rattle.replay.specs.Working.Rounds.{IsPlaying}
use Rattle.replay.proofs.playing.play_on.Given as goal

abbrev pub invariant-rounds : goal.invariant-rounds
invariant-rounds l = IsPlaying l.plant l.schedule l.player l.responses

abbrev pub decreases-rounds : goal.decreases-rounds
decreases-rounds l = (2 ^ 25 + 1) - l.player.made
