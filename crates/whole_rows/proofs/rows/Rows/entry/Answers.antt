use Rattle.std.proofs.Common.{◌<◌, length, ◌∙◌, arith}
use Rattle.std.proofs.lemmas.Int.{to_z-of_z}
use Rattle.std.specs.Int.{w128}
use mir.Val.{SFits}
use Rattle.whole_rows.specs.Row.{IsInRange}
use Rattle.whole_rows.proofs.Combinations.{fits_from_range}
use Rattle.whole_rows.proofs.Dense.{length-rows_kept, entry_read, column_is, entry_in-in_range}
use Rattle.whole_rows.proofs.rows.Rows.entry.Goals as goal

pub returns-clause-value : goal.returns-clause-value
returns-clause-value c =
    let i = c.self.inside in
    let row = rw (← c.self.view_is) at c.requires.row in
    let column = rw (← c.self.view_is) at c.requires.column in
    let within : c.args.column < length i.columns.items = omega (arith, c.self.invariant.columns_fit) in
    let kept = column_is i.costs i.columns.items i.rights.items c.args.column c.index.result.now c.self.invariant within c.index.ensures in
    let in_range : IsInRange c.entry.result = rw c.entry.ensures (entry_in-in_range (length i.rights.items) c.index.result.now c.args.row kept.each) in
    let fits : SFits w128 c.entry.result = fits_from_range c.entry.result in_range in
    rw (← c.self.view_is) (simp to_z-of_z (c.entry.ensures ∙ entry_read i.costs i.columns.items i.rights.items c.args.row c.args.column c.index.result.now (omega (arith, length-rows_kept i.costs i.columns.items i.rights.items)) within c.index.ensures))

pub returns-clause-in_range : goal.returns-clause-in_range
returns-clause-in_range c =
    let i = c.self.inside in
    let column = rw (← c.self.view_is) at c.requires.column in
    let within : c.args.column < length i.columns.items = omega (arith, c.self.invariant.columns_fit) in
    let kept = column_is i.costs i.columns.items i.rights.items c.args.column c.index.result.now c.self.invariant within c.index.ensures in
    let in_range : IsInRange c.entry.result = rw c.entry.ensures (entry_in-in_range (length i.rights.items) c.index.result.now c.args.row kept.each) in
    let fits : SFits w128 c.entry.result = fits_from_range c.entry.result in_range in
    simp to_z-of_z in_range
