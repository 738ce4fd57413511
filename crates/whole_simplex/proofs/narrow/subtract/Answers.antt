-- The places that are left lead from the row so far to the combination.
use Rattle.std.proofs.Common.{◌≡◌, ◌+◌, ◌<◌, ◌^◌, ◌-ℤ◌, ◌*ℤ◌, List, ℕ, ℤ, pos, length, get_or, drop, refl, sym, ap, ◌∙◌, subst, arith}
use Rattle.std.specs.Prelude.{unsigned_abs}
use Rattle.std.specs.Int.{w64}
use Rattle.std.proofs.lemmas.Int.{to_z-of_z}
use Rattle.std.proofs.lemmas.List.{length-set}
use mir.Val.{SFits, to_z, of_z}
use Rattle.whole_simplex.specs.Tables.{combined, entry}
use Rattle.whole_simplex.proofs.Eliminated.{length-combined}
use Rattle.whole_simplex.proofs.Subtracting.{place_within, subtracted, subtracted_is, subtracted_more, subtracted_place, subtracted_ends}
use Rattle.whole_simplex.proofs.narrow.subtract.Goals as goal

pub loop-i-init : goal.loop-i-init
loop-i-init c =
    let fits_a : SFits w64 c.args.a = c.ranges.a in
    (simp to_z-of_z (ap (λ (ks : List ℕ). subtracted ks c.args.row.now c.args.a c.args.pivot.now) c.requires.places ∙ subtracted_is c.args.row.now c.args.pivot.now c.args.a c.requires.same), c.requires.same)

pub subtract_at-requires-clause-row : goal.subtract_at-requires-clause-row
subtract_at-requires-clause-row c =
    let within = place_within c.args.places.now c.args.pivot.now c.loop-i.i c.requires.places c.loop-i-test.true in
    omega (arith, within, c.loop-i.invariant.1)

pub subtract_at-requires-clause-pivot : goal.subtract_at-requires-clause-pivot
subtract_at-requires-clause-pivot c = place_within c.args.places.now c.args.pivot.now c.loop-i.i c.requires.places c.loop-i-test.true

pub subtract_at-requires-clause-difference : goal.subtract_at-requires-clause-difference
subtract_at-requires-clause-difference c =
    let old = c.args.row.now in
    let pivot = c.args.pivot.now in
    let place : ℕ = get_or c.args.places.now c.loop-i.i 0 in
    let fits_a : SFits w64 c.args.a = c.ranges.a in
    let within : place < length pivot = place_within c.args.places.now pivot c.loop-i.i c.requires.places c.loop-i-test.true in
    let so_far : subtracted (drop c.loop-i.i c.args.places.now) c.loop-i.row c.args.a pivot ≡ combined (pos 1) old c.args.a pivot = simp to_z-of_z at c.loop-i.invariant.0 in
    let value : entry c.loop-i.row place -ℤ c.args.a *ℤ entry pivot place ≡ entry (combined (pos 1) old c.args.a pivot) place =
    subtracted_place c.args.places.now c.loop-i.i place c.loop-i.row c.args.a pivot (combined (pos 1) old c.args.a pivot) c.requires.places c.loop-i-test.true refl (omega (arith, within, c.loop-i.invariant.1)) so_far in
    let long : length (combined (pos 1) old c.args.a pivot) ≡ length old = length-combined (pos 1) c.args.a old pivot c.requires.same in
    let small : unsigned_abs (entry (combined (pos 1) old c.args.a pivot) place) < 2 ^ 63 = c.requires.sums place (pos 0) (omega (arith, within, long, c.requires.same)) in
    simp to_z-of_z (subst (λ (z : ℤ). unsigned_abs z < 2 ^ 63) (sym value) small)

pub loop-i-preserved : goal.loop-i-preserved
loop-i-preserved c =
    let pivot = c.args.pivot.now in
    let place : ℕ = get_or c.args.places.now c.loop-i.i 0 in
    let whole : List ℤ = combined (pos 1) c.args.row.now (to_z w64 (of_z w64 c.args.a)) pivot in
    let more : subtracted (drop (c.loop-i.i + 1) c.args.places.now) c.subtract_at.new.row (to_z w64 (of_z w64 c.args.a)) pivot ≡ whole =
    ap (λ (r : List ℤ). subtracted (drop (c.loop-i.i + 1) c.args.places.now) r (to_z w64 (of_z w64 c.args.a)) pivot) c.subtract_at.ensures
    ∙ subtracted_more c.args.places.now c.loop-i.i place c.loop-i.row (to_z w64 (of_z w64 c.args.a)) pivot whole c.loop-i-test.true refl c.loop-i.invariant.0 in
    (more, omega (arith, ap length c.subtract_at.ensures, length-set {A = ℤ}, c.loop-i.invariant.1))

pub returns : goal.returns
returns c =
    let fits_a : SFits w64 c.args.a = c.ranges.a in
    let so_far : subtracted (drop c.loop-i.i c.args.places.now) c.loop-i.row c.args.a c.args.pivot.now ≡ combined (pos 1) c.args.row.now c.args.a c.args.pivot.now = simp to_z-of_z at c.loop-i.invariant.0 in
    subtracted_ends c.args.places.now c.loop-i.i c.loop-i.row c.args.a c.args.pivot.now (combined (pos 1) c.args.row.now c.args.a c.args.pivot.now) (omega arith) so_far
