-- One more step, and the response of what it ended.
use Rattle.std.proofs.Common.{◌∷◌, Ok, ap, ◌∙◌, subst}
use Rattle.replay.specs.Working.Rounds.{AdvanceGives}
use Rattle.replay.proofs.Rounds.{told_on}
use Rattle.replay.proofs.playing.play_on.Goals as goal

pub rounds-preserved : goal.rounds-preserved
rounds-preserved c =
    let events = c.rounds.invariant.0 in
    let after = c.rounds.invariant.1 in
    let advances = subst (AdvanceGives c.args.plant.now c.args.schedule.now events c.rounds.player c.advance.new.player) (c.in_ok-advance.was ∙ ap Ok c.if-branch.true)
    (c.advance.ensures events after.stands) in (
      advances.event ∷ events,
      record {
        stands = advances.stands;
        sound = advances.sound;
        told = told_on c.args.plant.now c.args.schedule.now advances.event events c.rounds.responses c.push_some.new.responses c.advance.new.player.ended after.told advances.ended c.in_ok-push_some.ensures;
      },
    )
