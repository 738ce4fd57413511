-- One column more.
use Rattle.std.proofs.Common.{◌≡◌, ◌++◌, ◌∷◌, [], List, ℤ, pos, map, get_or, take, sym, ap, ◌∙◌, subst}
use Rattle.std.proofs.lemmas.Int.{to_z-of_z}
use Rattle.std.proofs.lemmas.List.{map_more}
use Rattle.std.proofs.lemmas.List.Elements.{All-push}
use Rattle.std.proofs.lemmas.Option.{get_or_from_slice_get}
use Rattle.std.specs.Int.{w128}
use mir.Val.{SFits}
use Rattle.whole_rows.specs.Row.{IsInRange, AreInRange}
use Rattle.whole_rows.proofs.Combinations.{fits_from_range}
use Rattle.row_squeeze.proofs.lift.spread.Goals as goal

pub loop-place-preserved : goal.loop-place-preserved
loop-place-preserved c =
    let i = c.loop-place.place-index in
    let ray = c.args.ray.now in
    let fits : SFits w128 c.get.result = fits_from_range c.get.result c.get.ensures.in_range in
    let items = simp to_z-of_z at c.in_ok-push.ensures.items in
    let at : c.get.result ≡ get_or c.args.ray.now (get_or c.args.places.now c.loop-place.place-index 0) (pos 0) = sym (get_or_from_slice_get ray (get_or c.args.places.now i 0) c.get.result (pos 0) c.get.ensures.value) in
    let more = map_more (λ place. get_or ray place (pos 0)) c.args.places.now i 0 c.loop-place-test.true in
    record {
      value = items ∙ ap (λ (xs : List ℤ). xs ++ c.get.result ∷ []) c.loop-place.invariant.value ∙ ap (λ (x : ℤ). map (λ place. get_or c.args.ray.now place (pos 0)) (take c.loop-place.place-index c.args.places.now) ++ x ∷ []) at ∙ sym more;
      in_range = subst AreInRange (sym items) (All-push IsInRange c.loop-place.full.items c.get.result c.loop-place.invariant.in_range c.get.ensures.in_range);
    }
