use Rattle.std.proofs.Common.{◌≡◌, ◌++◌, take}
use Rattle.whole_rows.specs.Rows.{row_at}
use Rattle.whole_simplex.proofs.table.push_narrow_columns.Given as goal

abbrev pub invariant-loop-column : goal.invariant-loop-column
invariant-loop-column l = l.entries.items ≡ l.fn.entries.items ++ take l.column (row_at l.rows l.row)
