use Rattle.std.proofs.Common.{◌∙◌}
use Rattle.trace_check.specs.Text.{is_address}
use Rattle.trace_check.proofs.Laws.{counted_view}
use Rattle.trace_check.proofs.reading.are_sites.Goals as goal

pub returns-then-values-le-MOST_SITES : goal.returns-then-values-le-MOST_SITES
returns-then-values-le-MOST_SITES c = c.all_addresses.ensures ∙ counted_view is_address 16 c.args.values.now c.if-values-le-MOST_SITES.true
