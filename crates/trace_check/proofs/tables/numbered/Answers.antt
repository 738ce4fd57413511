use Rattle.row_build.proofs.States.{numbers_more}
use Rattle.trace_check.proofs.tables.numbered.Goals as goal

pub loop-number-preserved : goal.loop-number-preserved
loop-number-preserved c =
    numbers_more c.loop-number.numbers c.insert.new.self c.args.states.now c.loop-number.number c.index-states-number.result
    c.loop-number-test.true c.index-states-number.is
    (λ q. rw (← c.in_ok-copy.ensures) (c.in_ok-_before.ensures.updates.0 q)) c.loop-number.invariant
