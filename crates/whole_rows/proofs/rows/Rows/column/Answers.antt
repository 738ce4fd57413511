use Rattle.std.proofs.Common.{◌<◌, length, arith}
use Rattle.whole_rows.proofs.Dense.{length-rows_kept, column_read, column_is}
use Rattle.whole_rows.proofs.rows.Rows.column.Goals as goal

pub returns-clause-value : goal.returns-clause-value
returns-clause-value c =
    let i = c.self.inside in
    let column = rw (← c.self.view_is) at c.requires in
    let within : c.args.column < length i.columns.items = omega (arith, c.self.invariant.columns_fit) in
    rw (← c.self.view_is, column_read i.costs i.columns.items i.rights.items c.args.column c.index.result.now c.self.invariant within c.index.ensures) c.as_slice.ensures

pub returns-clause-within : goal.returns-clause-within
returns-clause-within c =
    let i = c.self.inside in
    let column = rw (← c.self.view_is) at c.requires in
    let within : c.args.column < length i.columns.items = omega (arith, c.self.invariant.columns_fit) in
    let is = column_is i.costs i.columns.items i.rights.items c.args.column c.index.result.now c.self.invariant within c.index.ensures in
    rw (← c.self.view_is, length-rows_kept i.costs i.columns.items i.rights.items, c.as_slice.ensures) (λ k d h. (is.each k d h).within)
