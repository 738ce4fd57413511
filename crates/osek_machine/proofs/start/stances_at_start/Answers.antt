-- One more context stands as at the start.
use Rattle.std.proofs.Common.{subst}
use Rattle.osek_machine.specs.Working.Stances.{StandsAtStart}
use Rattle.osek_machine.proofs.Starting.{stands_more}
use Rattle.osek_machine.proofs.start.stances_at_start.Goals as goal

pub loop-place-preserved : goal.loop-place-preserved
loop-place-preserved c =
    rw c.in_ok-push.ensures.items
    (stands_more c.args.image.now c.args.system.now c.args.kernel.now c.loop-place.stances.items c.loop-place.place c.stance_at_start.result c.loop-place.invariant
    (subst (λ d. StandsAtStart c.args.image.now c.args.system.now c.args.kernel.now d c.stance_at_start.result) c.at-context.ensures c.stance_at_start.ensures))
