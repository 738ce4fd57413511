use Rattle.std.proofs.Common.{◌≡◌, replicate}
use Rattle.replay.proofs.laps.invocations.rows_of.Given as goal

abbrev pub invariant-loop : goal.invariant-loop
invariant-loop l = l.rows.items ≡ replicate l.counter (replicate l.loops 0)
