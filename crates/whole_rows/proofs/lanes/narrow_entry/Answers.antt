-- Products of numbers of 31 bits and their difference are in range.
use Rattle.std.proofs.Common.{◌≡◌, ◌<◌, ◌^◌, ℤ, ◌-ℤ◌, ◌*ℤ◌, unsigned_abs, arith}
use Rattle.std.proofs.lemmas.Int.{to_z-of_z, fits_signed_from_abs}
use Rattle.std.specs.Int.{w64, w128}
use mir.Val.{SFits}
use Rattle.whole_rows.proofs.FirstPlaces.{narrow_product, narrow_difference, narrow_combined}
use Rattle.whole_rows.proofs.lanes.narrow_entry.Goals as goal

fits_128 : (z : ℤ) → unsigned_abs z < 2 ^ 63 → SFits w128 z
fits_128 z h = fits_signed_from_abs w128 z (omega arith)

fits_64 : (z : ℤ) → unsigned_abs z < 2 ^ 63 → SFits w64 z
fits_64 z h = fits_signed_from_abs w64 z h

pub overflow_sub-p : goal.overflow_sub-p
overflow_sub-p c =
    let left : SFits w64 (c.args.p *ℤ c.args.x) = fits_64 (c.args.p *ℤ c.args.x) (omega (arith, narrow_product c.args.p c.args.x c.requires.p c.requires.x)) in
    let right : SFits w64 (c.args.a *ℤ c.args.y) = fits_64 (c.args.a *ℤ c.args.y) (omega (arith, narrow_product c.args.a c.args.y c.requires.a c.requires.y)) in
    let x : SFits w64 c.args.x = fits_64 c.args.x (omega (arith, c.requires.x)) in
    let y : SFits w64 c.args.y = fits_64 c.args.y (omega (arith, c.requires.y)) in
    let p : SFits w64 c.args.p = c.ranges.p in
    let a : SFits w64 c.args.a = c.ranges.a in
    let wide_x : SFits w128 c.args.x = c.ranges.x in
    let wide_y : SFits w128 c.args.y = c.ranges.y in
    simp to_z-of_z (fits_64 (c.args.p *ℤ c.args.x -ℤ c.args.a *ℤ c.args.y) (narrow_difference c.args.p c.args.x c.args.a c.args.y c.requires.p c.requires.x c.requires.a c.requires.y))

pub returns : goal.returns
returns c =
    let left : SFits w64 (c.args.p *ℤ c.args.x) = fits_64 (c.args.p *ℤ c.args.x) (omega (arith, narrow_product c.args.p c.args.x c.requires.p c.requires.x)) in
    let right : SFits w64 (c.args.a *ℤ c.args.y) = fits_64 (c.args.a *ℤ c.args.y) (omega (arith, narrow_product c.args.a c.args.y c.requires.a c.requires.y)) in
    let x : SFits w64 c.args.x = fits_64 c.args.x (omega (arith, c.requires.x)) in
    let y : SFits w64 c.args.y = fits_64 c.args.y (omega (arith, c.requires.y)) in
    let p : SFits w64 c.args.p = c.ranges.p in
    let a : SFits w64 c.args.a = c.ranges.a in
    let wide_x : SFits w128 c.args.x = c.ranges.x in
    let wide_y : SFits w128 c.args.y = c.ranges.y in
    let size = narrow_difference c.args.p c.args.x c.args.a c.args.y c.requires.p c.requires.x c.requires.a c.requires.y in
    let entry_64 : SFits w64 (c.args.p *ℤ c.args.x -ℤ c.args.a *ℤ c.args.y) = fits_64 (c.args.p *ℤ c.args.x -ℤ c.args.a *ℤ c.args.y) size in
    let entry : SFits w128 (c.args.p *ℤ c.args.x -ℤ c.args.a *ℤ c.args.y) = fits_128 (c.args.p *ℤ c.args.x -ℤ c.args.a *ℤ c.args.y) size in
    let value : c.from.result ≡ c.args.p *ℤ c.args.x -ℤ c.args.a *ℤ c.args.y = simp to_z-of_z at c.from.ensures in
    rw value (simp to_z-of_z (narrow_combined c.args.p c.args.x c.args.a c.args.y c.requires.p c.requires.x c.requires.a c.requires.y))
