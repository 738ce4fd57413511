use Rattle.std.proofs.Common.{◌≡◌, ◌≤◌, ◌-◌, length, take, Ok}
use Rattle.whole_rows.specs.Row.{combination}
use Rattle.whole_rows.proofs.lanes.combine_lanes.Given as goal

abbrev pub invariant-loop-at : goal.invariant-loop-at
invariant-loop-at l = record {
  within : l.at ≤ length l.row;
  before : combination (take l.at l.row) l.p (take l.at l.pivot_row) l.a ≡ Ok l.entries.items;
}

abbrev pub decreases-loop-at : goal.decreases-loop-at
decreases-loop-at l = length l.row - l.at
