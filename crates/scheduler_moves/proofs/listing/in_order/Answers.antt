use Rattle.std.proofs.Common.{◌∙◌}
use Rattle.listed.proofs.Apart.{among_more}
use Rattle.abstract_sched.specs.States.{same_state}
use Rattle.abstract_sched.specs.contracts.states.AbsStateOrd.TheImpl as order
use Rattle.scheduler_moves.proofs.Listings.{symmetric, tied}
use Rattle.scheduler_moves.proofs.listing.in_order.Goals as goal

pub loop-state-preserved : goal.loop-state-preserved
loop-state-preserved c = λ k.
    c.in_ok-_added.ensures.updates.0 k
    ∙ (rw (c.loop-state.invariant k, c.in_ok-copy.ensures)
    (among_more same_state order.cmp-value.it symmetric tied c.args.states.now c.loop-state.state-index c.state-item.result k c.loop-state-test.true
    c.state-item.is))
