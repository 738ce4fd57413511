use Rattle.scheduler_moves.proofs.ClosureSteps.{starts_more}
use Rattle.scheduler_moves.proofs.closing.missing_initial.Goals as goal

pub loop-mode-preserved : goal.loop-mode-preserved
loop-mode-preserved c =
    starts_more c.args.plant.now c.args.states.now c.loop-mode.mode c.in_ok-start.start c.in_ok-start.ensures
    (c.is_listed.ensures.0 c.if-not-is_listed.false) c.loop-mode.invariant
