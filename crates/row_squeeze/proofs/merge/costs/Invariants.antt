use Rattle.std.proofs.Common.{◌≡◌, take}
use Rattle.row_squeeze.proofs.merge.costs.Given as goal

abbrev pub invariant-loop-column : goal.invariant-loop-column
invariant-loop-column l = l.costs.items ≡ take l.column l.rows.costs
