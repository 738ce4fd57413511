use Rattle.std.proofs.Common.{◌∙◌}
use Rattle.trace_check.specs.Text.{is_in_range}
use Rattle.trace_check.proofs.Laws.{counted_view}
use Rattle.trace_check.proofs.reading.events_are_in_range.Goals as goal

pub returns-then-values-le-MOST_EVENTS : goal.returns-then-values-le-MOST_EVENTS
returns-then-values-le-MOST_EVENTS c = c.all_in_range.ensures ∙ counted_view is_in_range 65536 c.args.values.now c.if-values-le-MOST_EVENTS.true
