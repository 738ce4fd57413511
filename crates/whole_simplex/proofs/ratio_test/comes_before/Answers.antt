-- The two products are those of the definition, and each that leaves the range is one of the pairs.
use Rattle.std.proofs.Common.{◌≡◌, ◌+◌, ◌∷◌, [], ◌*ℤ◌, ◌||◌, ◌&&◌, int_lt, int_le, nat_lt, refl}
use Rattle.std.proofs.lemmas.Int.{to_z-of_z}
use Rattle.std.specs.Int.{w128}
use mir.Val.{SFits}
use Rattle.whole_rows.specs.Row.{IsInRange}
use Rattle.whole_rows.specs.declared.row.RowFault.TheVariants.{Wide}
use Rattle.whole_rows.proofs.Combinations.{fits_from_range}
use Rattle.whole_simplex.specs.Outcome.{Product}
use Rattle.whole_simplex.specs.Tables.{entry}
use Rattle.whole_simplex.proofs.FaultLemmas.{product_fault, product_narrow, fault_there}
use Rattle.whole_simplex.proofs.ratio_test.comes_before.Goals as goal

pub returns-in-Err : goal.returns-in-Err
returns-in-Err c =
    let x : SFits w128 c.entry.result = fits_from_range c.entry.result c.entry.ensures.in_range in
    let y : SFits w128 c.entry-2.result = fits_from_range c.entry-2.result c.entry-2.ensures.in_range in
    let h : (c.in-Err.fault ≡ Wide c.entry.result c.entry-2.result) × (IsInRange (c.entry.result *ℤ c.entry-2.result) → ⊥) = simp to_z-of_z at c.in-Err.ensures in
    let line = c.args.line.now.entries in
    let other = c.args.other.now.entries in
    product_fault (entry line (c.args.width + 1)) (entry other c.args.place) (Product (entry other (c.args.width + 1)) (entry line c.args.place) ∷ []) c.in-Err.fault
    (rw (← c.entry.ensures.value, ← c.entry-2.ensures.value) h.0) (rw (← c.entry.ensures.value, ← c.entry-2.ensures.value) h.1)

pub returns-in-Err-product : goal.returns-in-Err-product
returns-in-Err-product c =
    let x : SFits w128 c.entry-3.result = fits_from_range c.entry-3.result c.entry-3.ensures.in_range in
    let y : SFits w128 c.entry-4.result = fits_from_range c.entry-4.result c.entry-4.ensures.in_range in
    let h : (c.in-Err-product.fault ≡ Wide c.entry-3.result c.entry-4.result) × (IsInRange (c.entry-3.result *ℤ c.entry-4.result) → ⊥) = simp to_z-of_z at c.in-Err-product.ensures in
    let line = c.args.line.now.entries in
    let other = c.args.other.now.entries in
    fault_there (Product (entry line (c.args.width + 1)) (entry other c.args.place)) (Product (entry other (c.args.width + 1)) (entry line c.args.place) ∷ []) c.in-Err-product.fault
    (product_fault (entry other (c.args.width + 1)) (entry line c.args.place) [] c.in-Err-product.fault
    (rw (← c.entry-3.ensures.value, ← c.entry-4.ensures.value) h.0) (rw (← c.entry-3.ensures.value, ← c.entry-4.ensures.value) h.1))

pub returns : goal.returns
returns c =
    let x : SFits w128 c.entry.result = fits_from_range c.entry.result c.entry.ensures.in_range in
    let y : SFits w128 c.entry-2.result = fits_from_range c.entry-2.result c.entry-2.ensures.in_range in
    let z : SFits w128 c.entry-3.result = fits_from_range c.entry-3.result c.entry-3.ensures.in_range in
    let t : SFits w128 c.entry-4.result = fits_from_range c.entry-4.result c.entry-4.ensures.in_range in
    let mine : (c.in-Ok.mine ≡ c.entry.result *ℤ c.entry-2.result) × IsInRange c.in-Ok.mine = simp to_z-of_z at c.in-Ok.ensures in
    let its : (c.in-Ok-product.its ≡ c.entry-3.result *ℤ c.entry-4.result) × IsInRange c.in-Ok-product.its = simp to_z-of_z at c.in-Ok-product.ensures in
    let mine_fits : SFits w128 c.in-Ok.mine = fits_from_range c.in-Ok.mine mine.1 in
    let its_fits : SFits w128 c.in-Ok-product.its = fits_from_range c.in-Ok-product.its its.1 in
    let line = c.args.line.now in
    let other = c.args.other.now in
    let is : c.is_first.result ≡ (int_lt c.in-Ok.mine c.in-Ok-product.its || (int_le c.in-Ok.mine c.in-Ok-product.its && nat_lt line.basic other.basic)) = simp to_z-of_z at c.is_first.ensures in
    let left : c.in-Ok.mine ≡ entry line.entries (c.args.width + 1) *ℤ entry other.entries c.args.place = rw (← c.entry.ensures.value, ← c.entry-2.ensures.value) mine.0 in
    let right : c.in-Ok-product.its ≡ entry other.entries (c.args.width + 1) *ℤ entry line.entries c.args.place = rw (← c.entry-3.ensures.value, ← c.entry-4.ensures.value) its.0 in (
      rw (← left, ← right) is,
      product_narrow (entry line.entries (c.args.width + 1)) (entry other.entries c.args.place) (Product (entry other.entries (c.args.width + 1)) (entry line.entries c.args.place) ∷ [])
          (rw (← left) mine.1)
          (product_narrow (entry other.entries (c.args.width + 1)) (entry line.entries c.args.place) [] (rw (← right) its.1) refl),
    )
