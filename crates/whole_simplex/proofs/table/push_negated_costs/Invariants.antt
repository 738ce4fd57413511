use Rattle.std.proofs.Common.{◌≡◌, ◌++◌, map, neg_ℤ, take}
use Rattle.whole_simplex.proofs.table.push_negated_costs.Given as goal

abbrev pub invariant-loop-column : goal.invariant-loop-column
invariant-loop-column l = l.entries.items ≡ l.fn.entries.items ++ map neg_ℤ (take l.column l.rows.costs)
