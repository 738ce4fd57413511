use Rattle.std.proofs.Common.{take}
use Rattle.whole_rows.proofs.Divisors.{IsDivisorOf}
use Rattle.whole_rows.proofs.row.divisor.Given as goal

abbrev pub invariant-loop-entry : goal.invariant-loop-entry
invariant-loop-entry l = IsDivisorOf (take l.entry-index l.entries) l.divisor
