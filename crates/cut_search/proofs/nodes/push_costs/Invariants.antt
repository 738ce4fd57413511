use Rattle.std.proofs.Common.{◌≡◌, take}
use Rattle.cut_search.proofs.nodes.push_costs.Given as goal

abbrev pub invariant-loop-column : goal.invariant-loop-column
invariant-loop-column l = l.costs.items ≡ take l.column l.base.costs
