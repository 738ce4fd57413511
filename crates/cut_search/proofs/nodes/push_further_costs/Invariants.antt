use Rattle.std.proofs.Common.{◌≡◌, ◌++◌, replicate, take}
use Rattle.whole_rows.specs.Row.{AreInRange}
use Rattle.cut_search.specs.Nodes.{further_cost, further_count}
use Rattle.cut_search.proofs.nodes.push_further_costs.Given as goal

abbrev pub invariant-loop-place : goal.invariant-loop-place
invariant-loop-place l = record {
  value : l.costs.items ≡ l.initial.costs.items ++ replicate (further_count (take l.place l.limits)) further_cost;
  in_range : AreInRange l.costs.items;
}
