use Rattle.std.proofs.Common.{arith}
use Rattle.whole_rows.proofs.Dense.{length-rows_kept, AreRows-kept}
use Rattle.whole_rows.proofs.rows.Rows.row_count.Goals as goal

pub returns-clause-value : goal.returns-clause-value
returns-clause-value c =
    let i = c.self.inside in
    rw (← c.self.view_is) (omega (arith, length-rows_kept i.costs i.columns.items i.rights.items, i.rights.ok.0))

pub returns-clause-rows : goal.returns-clause-rows
returns-clause-rows c =
    let i = c.self.inside in
    rw (← c.self.view_is) (AreRows-kept i.costs i.columns.items i.rights.items c.self.invariant)
