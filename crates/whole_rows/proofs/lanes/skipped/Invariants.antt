use Rattle.std.proofs.Common.{ℕ, ◌≤◌, ◌<◌, ◌-◌, ◌≤ℤ◌, pos, length, get_or}
use Rattle.whole_rows.proofs.lanes.skipped.Given as goal

abbrev pub invariant-loop-at : goal.invariant-loop-at
invariant-loop-at l = record {
  within : l.at ≤ length l.entries;
  skipped : (k : ℕ) → k < l.at → pos 0 ≤ℤ get_or l.entries k (pos 0);
}

abbrev pub decreases-loop-at : goal.decreases-loop-at
decreases-loop-at l = length l.entries - l.at
