use Rattle.std.proofs.Common.{◌≡◌, ◌++◌, take}
use Rattle.cut_search.specs.Leaves.{side_multipliers}
use Rattle.cut_search.specs.Working.Leaves.{limit_row_count}
use Rattle.cut_search.proofs.leaves.push_multipliers.Given as goal

abbrev pub invariant-loop-place : goal.invariant-loop-place
invariant-loop-place l = record {
  found : l.found ≡ l.initial.found ++ side_multipliers (take l.place l.limits) l.multipliers;
  at : l.at ≡ limit_row_count (take l.place l.limits);
}
