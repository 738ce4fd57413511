use Rattle.std.proofs.Common.{◌≡◌, map, take, unsigned_abs}
use Rattle.whole_rows.specs.Rows.{column_of, product_sum}
use Rattle.row_squeeze.proofs.lift.column_total.Given as goal

abbrev pub invariant-loop-row : goal.invariant-loop-row
invariant-loop-row l =
    l.total ≡ product_sum (take l.row (column_of l.rows l.column)) (map unsigned_abs l.multipliers)
