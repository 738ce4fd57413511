use Rattle.std.proofs.Common.{◌∙◌}
use Rattle.trace_check.proofs.Arriving.{any_is}
use Rattle.trace_check.proofs.arrivals.is_near.Goals as goal

pub returns-then-once : goal.returns-then-once
returns-then-once c = λ moments holds. rw (c.if-once.true)
    (c.is_some.ensures ∙ any_is c.first_from.result moments c.args.at c.args.distance (c.first_from.ensures moments holds))

pub returns-else-once : goal.returns-else-once
returns-else-once c = λ moments holds. rw (c.if-once.false) (c.has_nearer.ensures moments holds)
