use Rattle.std.proofs.Common.{◌≡◌, take}
use Rattle.whole_simplex.specs.Tables.{lines_from}
use Rattle.whole_simplex.proofs.table.first_lines.Given as goal

abbrev pub invariant-loop-row : goal.invariant-loop-row
invariant-loop-row l = l.lines.items ≡ lines_from l.rows 0 (take l.row l.rows.rows) (take l.row l.rows.rights)
