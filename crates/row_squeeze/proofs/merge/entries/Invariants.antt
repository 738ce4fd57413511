use Rattle.std.proofs.Common.{◌≡◌, take}
use Rattle.whole_rows.specs.Rows.{row_at}
use Rattle.row_squeeze.proofs.merge.entries.Given as goal

abbrev pub invariant-loop-column : goal.invariant-loop-column
invariant-loop-column l = l.entries.items ≡ take l.column (row_at l.rows l.row)
