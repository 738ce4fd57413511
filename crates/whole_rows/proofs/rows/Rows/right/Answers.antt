use Rattle.std.proofs.Common.{arith}
use Rattle.std.proofs.lemmas.Int.{to_z-of_z}
use Rattle.std.specs.Int.{w128}
use mir.Val.{SFits}
use Rattle.whole_rows.proofs.Combinations.{fits_from_range}
use Rattle.whole_rows.proofs.Dense.{length-rows_kept, right_read}
use Rattle.whole_rows.proofs.rows.Rows.right.Goals as goal

pub index-requires : goal.index-requires
index-requires c =
    let i = c.self.inside in
    let within = rw (← c.self.view_is) at c.requires in
    omega (arith, length-rows_kept i.costs i.columns.items i.rights.items, i.rights.ok.0)

pub returns-clause-value : goal.returns-clause-value
returns-clause-value c =
    let i = c.self.inside in
    let within = rw (← c.self.view_is) at c.requires in
    let read = right_read i.costs i.columns.items i.rights.items c.args.row c.index.result.now c.self.invariant (omega (arith, length-rows_kept i.costs i.columns.items i.rights.items)) c.index.ensures in
    let fits : SFits w128 c.index.result.now = fits_from_range c.index.result.now read.1 in
    rw (← c.self.view_is) (simp to_z-of_z read.0)

pub returns-clause-in_range : goal.returns-clause-in_range
returns-clause-in_range c =
    let i = c.self.inside in
    let within = rw (← c.self.view_is) at c.requires in
    let read = right_read i.costs i.columns.items i.rights.items c.args.row c.index.result.now c.self.invariant (omega (arith, length-rows_kept i.costs i.columns.items i.rights.items)) c.index.ensures in
    let fits : SFits w128 c.index.result.now = fits_from_range c.index.result.now read.1 in
    simp to_z-of_z read.1

pub returns-clause-not_negative : goal.returns-clause-not_negative
returns-clause-not_negative c =
    let i = c.self.inside in
    let within = rw (← c.self.view_is) at c.requires in
    let read = right_read i.costs i.columns.items i.rights.items c.args.row c.index.result.now c.self.invariant (omega (arith, length-rows_kept i.costs i.columns.items i.rights.items)) c.index.ensures in
    let fits : SFits w128 c.index.result.now = fits_from_range c.index.result.now read.1 in
    simp to_z-of_z read.2
