-- The combination is that of the definition, and its wide pair one of the pairs.
use Rattle.std.proofs.Common.{◌≡◌, pos, sym, ◌∙◌}
use Rattle.std.specs.Prelude.{Ok}
use Rattle.std.proofs.lemmas.Int.{to_z-of_z}
use Rattle.std.proofs.lemmas.Option.{get_or_from_slice_get}
use Rattle.std.specs.Int.{w128}
use mir.Val.{SFits, to_z, of_z}
use Rattle.whole_rows.specs.Row.{combination}
use Rattle.whole_rows.proofs.Combinations.{fits_from_range}
use Rattle.whole_simplex.specs.Tables.{entry}
use Rattle.whole_simplex.proofs.Eliminating.{eliminates_done, eliminates_wide}
use Rattle.whole_simplex.proofs.pivot.eliminated_row.Goals as goal

pub returns-in-Ok : goal.returns-in-Ok
returns-in-Ok c =
    let p : SFits w128 c.get.result = fits_from_range c.get.result c.get.ensures.in_range in
    let a : SFits w128 c.get-2.result = fits_from_range c.get-2.result c.get-2.ensures.in_range in
    let at_p : c.get.result ≡ entry c.args.pivot.now c.args.place = sym (get_or_from_slice_get c.args.pivot.now c.args.place c.get.result (pos 0) c.get.ensures.value) in
    let at_a : c.get-2.result ≡ entry c.args.row.now c.args.place = sym (get_or_from_slice_get c.args.row.now c.args.place c.get-2.result (pos 0) c.get-2.ensures.value) in
    let is : combination c.args.row.now c.get.result c.args.pivot.now c.get-2.result ≡ Ok c.in-Ok.combined = simp to_z-of_z at c.in-Ok.ensures in
    eliminates_done c.args.place c.args.pivot.now c.args.row.now c.in-Ok.combined c.primitive.new.row c.requires.entry (rw (← at_a, ← at_p) is) c.primitive.ensures

pub returns-in-Err : goal.returns-in-Err
returns-in-Err c =
    let p : SFits w128 c.get.result = fits_from_range c.get.result c.get.ensures.in_range in
    let a : SFits w128 c.get-2.result = fits_from_range c.get-2.result c.get-2.ensures.in_range in
    let at_p : c.get.result ≡ entry c.args.pivot.now c.args.place = sym (get_or_from_slice_get c.args.pivot.now c.args.place c.get.result (pos 0) c.get.ensures.value) in
    let at_a : c.get-2.result ≡ entry c.args.row.now c.args.place = sym (get_or_from_slice_get c.args.row.now c.args.place c.get-2.result (pos 0) c.get-2.ensures.value) in
    eliminates_wide c.args.place c.args.pivot.now c.args.row.now (to_z w128 (of_z w128 c.get.result)) (to_z w128 (of_z w128 c.get-2.result)) c.in-Err.fault c.requires.entry
    (to_z-of_z w128 c.get.result p ∙ at_p) (to_z-of_z w128 c.get-2.result a ∙ at_a) c.in-Err.ensures
