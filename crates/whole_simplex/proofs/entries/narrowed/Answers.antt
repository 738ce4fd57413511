-- One entry more.
use Rattle.std.proofs.Common.{◌≡◌, ◌<◌, ◌^◌, ◌++◌, [], ◌∷◌, ℤ, pos, length, get_or, sym, subst, rules}
use Rattle.std.specs.Prelude.{unsigned_abs}
use Rattle.std.specs.Int.{w64, w128}
use Rattle.std.proofs.lemmas.Int.{to_z-of_z, fits_signed_from_abs}
use Rattle.std.proofs.lemmas.List.Elements.{All-more}
use Rattle.std.proofs.lemmas.Option.{get_or_from_slice_get}
use mir.Val.{SFits, to_z, of_z}
use Rattle.whole_rows.proofs.Combinations.{fits_from_range}
use Rattle.whole_simplex.proofs.Subtracting.{read_more}
use Rattle.whole_simplex.proofs.entries.narrowed.Goals as goal

pub loop-i-preserved : goal.loop-i-preserved
loop-i-preserved c =
    let row = c.args.row.now in
    let i = c.loop-i.i in
    let fits : SFits w128 c.get-entry.result = fits_from_range c.get-entry.result c.get-entry.ensures.in_range in
    let narrow : unsigned_abs (to_z w128 (of_z w128 c.get-entry.result)) < 2 ^ 63 = search rules in
    let small : unsigned_abs c.get-entry.result < 2 ^ 63 = simp to_z-of_z at narrow in
    let narrow_fits : SFits w64 c.get-entry.result = fits_signed_from_abs w64 c.get-entry.result small in
    let at : c.get-entry.result ≡ get_or row i (pos 0) = sym (get_or_from_slice_get row i c.get-entry.result (pos 0) c.get-entry.ensures.value) in
    let item : c.push.new.self.items ≡ c.loop-i.narrow.items ++ c.get-entry.result ∷ [] = simp to_z-of_z at c.in_ok-push.ensures.items in
    let within : i < length row = search rules in (
      read_more row c.loop-i.narrow.items c.push.new.self.items i c.get-entry.result within c.loop-i.invariant.0 item at,
      All-more (λ x. unsigned_abs x < 2 ^ 63) row i (pos 0) within c.loop-i.invariant.1 (subst (λ (x : ℤ). unsigned_abs x < 2 ^ 63) at small),
    )
