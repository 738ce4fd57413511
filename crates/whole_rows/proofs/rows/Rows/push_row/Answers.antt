-- The parts with one more row show the rows with one more row.
use Rattle.std.proofs.Common.{◌≡◌, ◌++◌, ◌∷◌, [], length, refl, arith}
use Rattle.std.proofs.lemmas.Int.{to_z-of_z}
use Rattle.std.specs.Int.{w128}
use mir.Val.{SFits}
use Rattle.whole_rows.specs.Columns.{with_terms}
use Rattle.whole_rows.proofs.Columns.{rows_kept_more, IsKept_more}
use Rattle.whole_rows.proofs.rows.Rows.push_row.Goals as goal

pub invariant_of-self-2 : goal.invariant_of-self-2
invariant_of-self-2 c =
    let i = c.self.inside in
    let right : SFits w128 c.args.right = c.ranges.right in
    let count : c.len-row.result ≡ length i.rights.items = omega (arith, c.len-row.ensures, i.rights.ok.0) in
    let columns : c.push_terms.new.columns.items ≡ with_terms (length i.rights.items) i.columns.items c.args.left.now =
    rw (c.in_ok-push_terms.ensures.ok, count, c.as_slice.ensures) refl in
    let rights : c.push.new.self.items ≡ i.rights.items ++ c.args.right ∷ [] =
    rw (← c.reserve.ensures.items) (simp to_z-of_z at c.in_ok-push.ensures.items) in
    rw (columns, rights) (IsKept_more i.costs i.columns.items i.rights.items c.args.left.now c.args.right c.self.invariant (rw (← c.self.view_is) at c.requires.left) c.requires.right_in_range c.requires.right_not_negative)

pub returns-clause-ok : goal.returns-clause-ok
returns-clause-ok c =
    let i = c.self.inside in
    let right : SFits w128 c.args.right = c.ranges.right in
    let count : c.len-row.result ≡ length i.rights.items = omega (arith, c.len-row.ensures, i.rights.ok.0) in
    let columns : c.push_terms.new.columns.items ≡ with_terms (length i.rights.items) i.columns.items c.args.left.now =
    rw (c.in_ok-push_terms.ensures.ok, count, c.as_slice.ensures) refl in
    let rights : c.push.new.self.items ≡ i.rights.items ++ c.args.right ∷ [] =
    rw (← c.reserve.ensures.items) (simp to_z-of_z at c.in_ok-push.ensures.items) in
    rw (← c.self.view_is, columns, rights) (rows_kept_more i.costs i.columns.items i.rights.items c.args.left.now c.args.right c.self.invariant)
