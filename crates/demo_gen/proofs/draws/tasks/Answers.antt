use Rattle.std.proofs.Common.{refl, arith}
use Rattle.demo_gen.specs.Draws.{entry_of}
use Rattle.demo_gen.proofs.Drawing.{drawn_more}
use Rattle.demo_gen.proofs.draws.tasks.Goals as goal

pub loop-number-init : goal.loop-number-init
unfolding entry_of
loop-number-init c = record { state_is = refl; entry_is = refl; low = omega arith; made_is = c.new-made.ensures.items }

pub loop-number-preserved : goal.loop-number-preserved
loop-number-preserved c =
    let more = drawn_more c.args.seed c.args.count c.loop-number.number c.loop-number.state c.loop-number.entry c.loop-number.made.items
    c.task_at-task.result c.loop-number.invariant c.task_at-task.ensures in
    rw (c.moved-state.ensures, c.moved-in-loop-number.ensures, c.moved.ensures, c.in_ok-push.ensures.items) more
