use Rattle.std.proofs.Common.{ℕ, ◌<◌, ◌≤ℤ◌, pos, get_or}
use Rattle.whole_rows.proofs.lanes.first_negative_from.Given as goal

abbrev pub invariant-loop-i : goal.invariant-loop-i
invariant-loop-i l = (k : ℕ) → k < l.i → pos 0 ≤ℤ get_or l.entries k (pos 0)
