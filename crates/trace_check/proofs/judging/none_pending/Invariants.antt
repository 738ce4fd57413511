use Rattle.std.proofs.Common.{◌≡◌, replicate, false}
use Rattle.trace_check.proofs.judging.none_pending.Given as goal

abbrev pub invariant-loop-source : goal.invariant-loop-source
invariant-loop-source l = l.pending.items ≡ replicate l._source false
