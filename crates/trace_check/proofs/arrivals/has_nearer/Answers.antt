use Rattle.std.proofs.Common.{◌-◌, ap, ◌∙◌}
use Rattle.trace_check.proofs.Arriving.{near_least, near_none}
use Rattle.trace_check.proofs.arrivals.has_nearer.Goals as goal

pub returns-in-Some : goal.returns-in-Some
returns-in-Some c = λ moments holds. rw (c.gap.ensures)
    (near_least c.args.at c.args.distance c.saturating_sub-2.result c.in-Some.other moments
    (c.saturating_sub-2.ensures ∙ ap (λ n. c.args.at - n) c.saturating_sub.ensures) (c.in-Some.ensures moments holds))

pub returns-in-None : goal.returns-in-None
returns-in-None c = λ moments holds.
    near_none c.args.at c.args.distance c.saturating_sub-2.result moments
    (c.saturating_sub-2.ensures ∙ ap (λ n. c.args.at - n) c.saturating_sub.ensures) (c.in-None.ensures moments holds)
