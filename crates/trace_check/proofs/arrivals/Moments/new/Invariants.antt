use Rattle.std.proofs.Common.{[]}
use Rattle.trace_check.specs.Working.Arrived.{AreKept}
use Rattle.trace_check.proofs.arrivals.Moments.new.Given as goal

abbrev pub invariant-loop-source : goal.invariant-loop-source
invariant-loop-source l = AreKept l.sets.items l._source []
