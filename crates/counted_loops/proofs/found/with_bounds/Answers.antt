-- One more loop has its bound.
use Rattle.counted_loops.proofs.FoundTimings.{with_push}
use Rattle.counted_loops.proofs.found.with_bounds.Goals as goal

pub loop-i-preserved : goal.loop-i-preserved
loop-i-preserved c =
    with_push c.args.loops.now c.args.found.now c.loop-i.i _ c.with_bound.result _ c.loop-i.made c.push.new.self c.requires c.loop-i-test.true
    c.loop-i.invariant c.with_bound.ensures c.in_ok-push.ensures.ok
