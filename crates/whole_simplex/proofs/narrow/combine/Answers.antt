-- All products and sums are below 2^63.
use Rattle.std.proofs.Common.{◌≡◌, ◌<◌, ◌^◌, ◌*ℤ◌, List, ℤ, pos, map, All, sym, ap, ◌∙◌, subst}
use Rattle.std.specs.Prelude.{unsigned_abs}
use Rattle.std.specs.Int.{w64}
use Rattle.std.proofs.lemmas.Int.{to_z-of_z}
use mir.Val.{SFits}
use Rattle.whole_simplex.specs.Sizes.{AreSmall}
use Rattle.whole_simplex.specs.Tables.{combined}
use Rattle.whole_simplex.proofs.Scaled.{combined_first}
use Rattle.whole_simplex.proofs.Subtracting.{pivot_products, row_products, small_sums}
use Rattle.whole_simplex.proofs.narrow.combine.Goals as goal

pub scale-requires : goal.scale-requires
scale-requires c =
    let fits_p : SFits w64 c.args.p = c.ranges.p in
    simp to_z-of_z (row_products c.args.p c.args.a c.args.row.now c.args.pivot.now.bound c.requires.limit)

pub subtract-requires-clause-products : goal.subtract-requires-clause-products
subtract-requires-clause-products c =
    let fits_a : SFits w64 c.args.a = c.ranges.a in
    simp to_z-of_z (subst (λ (l : List ℤ). All (λ y. unsigned_abs (c.args.a *ℤ y) < 2 ^ 63) l) (sym c.as_slice.ensures.value)
    (pivot_products c.args.p c.args.a c.args.row.now c.args.pivot.now.entries.items c.args.pivot.now.bound c.requires.same c.requires.limit c.requires.pivot.within))

pub subtract-requires-clause-sums : goal.subtract-requires-clause-sums
subtract-requires-clause-sums c =
    let fits_p : SFits w64 c.args.p = c.ranges.p in
    let fits_a : SFits w64 c.args.a = c.ranges.a in
    let scaled : c.scale.new.row ≡ map (λ x. c.args.p *ℤ x) c.args.row.now = simp to_z-of_z at c.scale.ensures in
    simp to_z-of_z (subst (λ (l : List ℤ). AreSmall (combined (pos 1) c.scale.new.row c.args.a l)) (sym c.as_slice.ensures.value)
    (subst (λ (r : List ℤ). AreSmall (combined (pos 1) r c.args.a c.args.pivot.now.entries.items)) (sym scaled)
    (small_sums c.args.p c.args.a c.args.row.now c.args.pivot.now.entries.items c.args.pivot.now.bound c.requires.limit c.requires.pivot.within)))

pub returns : goal.returns
returns c =
    let fits_p : SFits w64 c.args.p = c.ranges.p in
    let fits_a : SFits w64 c.args.a = c.ranges.a in
    let scaled : c.scale.new.row ≡ map (λ x. c.args.p *ℤ x) c.args.row.now = simp to_z-of_z at c.scale.ensures in
    let is : c.subtract.new.row ≡ combined (pos 1) c.scale.new.row c.args.a c.as_slice.result.now = simp to_z-of_z at c.subtract.ensures in
    is ∙ ap (λ (l : List ℤ). combined (pos 1) c.scale.new.row c.args.a l) c.as_slice.ensures.value
    ∙ ap (λ (r : List ℤ). combined (pos 1) r c.args.a c.args.pivot.now.entries.items) scaled
    ∙ combined_first c.args.p c.args.a c.args.row.now c.args.pivot.now.entries.items
