-- The product and the difference fit 64 bits.
use Rattle.std.proofs.Common.{◌-ℤ◌, ◌*ℤ◌, ℤ, pos, get_or, rules}
use Rattle.std.specs.Int.{w64}
use Rattle.std.proofs.lemmas.Int.{to_z-of_z, fits_signed_from_abs}
use mir.Val.{SFits}
use Rattle.whole_simplex.proofs.narrow.subtract_at.Goals as goal

pub returns : goal.returns
returns c =
    let x : ℤ = get_or c.args.row.now c.args.place (pos 0) in
    let y : ℤ = get_or c.args.pivot.now c.args.place (pos 0) in
    let fits_a : SFits w64 c.args.a = c.ranges.a in
    let fits_x : SFits w64 (get_or c.args.row.now c.args.place (pos 0)) = search rules in
    let fits_y : SFits w64 (get_or c.args.pivot.now c.args.place (pos 0)) = search rules in
    let product : SFits w64 (c.args.a *ℤ get_or c.args.pivot.now c.args.place (pos 0)) = fits_signed_from_abs w64 (c.args.a *ℤ y) c.requires.product in
    let difference : SFits w64 (get_or c.args.row.now c.args.place (pos 0) -ℤ c.args.a *ℤ get_or c.args.pivot.now c.args.place (pos 0)) = fits_signed_from_abs w64 (x -ℤ c.args.a *ℤ y) c.requires.difference in
    simp to_z-of_z
