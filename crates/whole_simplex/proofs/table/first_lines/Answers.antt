-- One line more at each turn.
use Rattle.std.proofs.Common.{◌≡◌, ◌<◌, length, arith}
use Rattle.whole_simplex.proofs.Building.{first_lines_more}
use Rattle.whole_simplex.proofs.table.first_lines.Goals as goal

pub loop-row-preserved : goal.loop-row-preserved
loop-row-preserved c =
    let d = c.args.rows.now in
    let rights : length d.rights ≡ length d.rows = c.row_count-row-end.ensures.rows.shape.rights_fit in
    let below : c.loop-row.row < length d.rows = omega (arith, c.row_count-row-end.ensures.value) in
    first_lines_more d c.loop-row.row c.loop-row.lines.items c.push.new.self.items c.in_ok-first_line.field-0 below (omega (arith, rights)) c.loop-row.invariant c.in_ok-first_line.ensures c.in_ok-push.ensures.items
