use Rattle.std.proofs.Common.{◌≡◌, map, take}
use Rattle.timing_file.proofs.spans.spans_differ.Given as goal

abbrev pub invariant-loop-range : goal.invariant-loop-range
invariant-loop-range g l = l.spans.items ≡ map g.T.Spanned.span (take l.range-index l.ranges)
