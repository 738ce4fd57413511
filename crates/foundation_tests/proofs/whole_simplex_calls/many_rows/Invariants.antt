use Rattle.std.proofs.Common.{◌≡◌, length}
use Rattle.foundation_tests.proofs.whole_simplex_calls.many_rows.Given as goal

abbrev pub invariant-loop-row : goal.invariant-loop-row
invariant-loop-row l = length l.rows.costs ≡ 1
