-- The pairs of the comparison are those of the line.
use Rattle.std.proofs.Common.{◌≡◌, ◌<ℤ◌, pos, false, length, refl, rules, arith}
use Rattle.std.specs.Prelude.{int_le}
use Rattle.std.proofs.lemmas.Int.{to_z-of_z, ints}
use Rattle.std.proofs.lemmas.Option.{slice_get_read}
use Rattle.std.specs.Int.{w128}
use mir.Val.{SFits}
use Rattle.whole_rows.proofs.Combinations.{fits_from_range}
use Rattle.whole_simplex.proofs.RatioSearch.{ratio_fault}
use Rattle.whole_simplex.proofs.ratio_test.lesser.Goals as goal

pub returns-in-Err-clause-least : goal.returns-in-Err-clause-least
returns-in-Err-clause-least c = λ same at.
    let x : SFits w128 c.entry.result = fits_from_range c.entry.result c.entry.ensures.in_range in
    let test : int_le c.entry.result (pos 0) ≡ false = simp to_z-of_z at c.if-entry-le0.false in
    let above : pos 0 <ℤ c.entry.result = grind (arith, ints) in
    ratio_fault c.args.width c.args.place c.args.lines.now c.args.best c.in-Some.b c.args.i c.index-lines-i.result c.index-lines-b.result same c.in-Err.fault
    c.in-Some.is
    (slice_get_read c.args.lines.now (length c.args.lines.now) c.in-Some.b c.index-lines-b.result refl (search rules) c.index-lines-b.is)
    (slice_get_read c.args.lines.now (length c.args.lines.now) c.args.i c.index-lines-i.result refl c.requires.within c.index-lines-i.is)
    at (rw (← c.entry.ensures.value) above) c.in-Err.ensures
