use Rattle.std.proofs.Common.{◌-◌, drop, length}
use Rattle.std.specs.Int.{◌∣◌}
use Rattle.whole_rows.specs.Row.{divisor_of}
use Rattle.whole_rows.proofs.Divisors.{DividesAll}
use Rattle.whole_simplex.proofs.narrow.divisor_from.Given as goal

abbrev pub invariant-loop-i : goal.invariant-loop-i
invariant-loop-i l = (divisor_of l.row ∣ l.divisor.value) × DividesAll l.divisor.value (drop (length l.row - l.i) l.row)
