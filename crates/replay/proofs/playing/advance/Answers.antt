-- A turn that tells a step made one.
use Rattle.std.proofs.Common.{Ok, Bool, sym, subst}
use Rattle.replay.specs.Working.Rounds.{AdvanceGives}
use Rattle.replay.proofs.Rounds.{advance_gives}
use Rattle.replay.proofs.playing.advance.Goals as goal

pub returns-in-Ok : goal.returns-in-Ok
returns-in-Ok c = λ events stands.
    subst (λ (b : Bool). AdvanceGives c.args.plant.now c.args.schedule.now events c.args.player.now c.turn.new.self (Ok b)) (sym c.is_step-made.ensures)
    (advance_gives c.args.plant.now c.args.schedule.now events c.args.player.now c.turn.new.self _ (c.in-Ok.ensures.gives events stands))
