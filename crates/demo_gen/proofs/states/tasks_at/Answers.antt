use Rattle.std.proofs.Common.{sym}
use Rattle.std.proofs.lemmas.List.{get_or_default}
use Rattle.demo_gen.proofs.StateLists.{tasks_at-more}
use Rattle.demo_gen.proofs.states.tasks_at.Goals as goal

pub loop-number-preserved : goal.loop-number-preserved
loop-number-preserved c =
    rw (c.in_ok-push.ensures.ok, c.task_at.ensures, c.loop-number.invariant)
    (sym (tasks_at-more c.args.set.now c.loop-number.number _ c.loop-number-test.true (get_or_default c.args.set.now c.loop-number.number _ _ c.loop-number-test.true)))
