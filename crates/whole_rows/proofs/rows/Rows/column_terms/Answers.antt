use Rattle.std.proofs.Common.{◌<◌, length, arith}
use Rattle.whole_rows.proofs.Dense.{column_read}
use Rattle.whole_rows.proofs.rows.Rows.column_terms.Goals as goal

pub returns : goal.returns
returns c =
    let i = c.self.inside in
    let within = rw (← c.self.view_is) at c.requires in
    let within_columns : c.args.column < length i.columns.items = omega (arith, c.self.invariant.columns_fit) in
    let read = column_read i.costs i.columns.items i.rights.items c.args.column c.index.result.now c.self.invariant within_columns c.index.ensures in
    rw (← c.self.view_is, read) c.len.ensures
