use Rattle.replay.proofs.LapsContexts.{one_started}
use Rattle.replay.proofs.laps.all_started.Goals as goal

pub loop-preserved : goal.loop-preserved
loop-preserved c =
    rw c.in_ok-push.ensures.items
    (one_started c.args.loops.now c.loop.counter c.loop.contexts.items c.in_ok-new.field-0 c.loop.invariant c.in_ok-new.ensures)
