use Rattle.std.proofs.Common.{◌++◌, ◌∷◌, [], List, ℕ, pos, map, take, unsigned_abs, sym, ◌∙◌, ap, arith}
use Rattle.std.proofs.lemmas.Int.{to_z-of_z}
use Rattle.std.proofs.lemmas.List.{map_more}
use Rattle.std.proofs.lemmas.Option.{get_or_from_slice_get}
use Rattle.std.specs.Int.{w128}
use mir.Val.{SFits}
use Rattle.whole_rows.proofs.Combinations.{fits_from_range}
use Rattle.cut_search.proofs.leaves.sizes.Goals as goal

pub loop-i-preserved : goal.loop-i-preserved
loop-i-preserved c =
    let fits : SFits w128 c.get.result = fits_from_range c.get.result c.get.ensures.in_range in
    let size = simp to_z-of_z at c.unsigned_abs.ensures.value in
    let at = get_or_from_slice_get c.args.row.now c.loop-i.i c.get.result (pos 0) c.get.ensures.value in
    c.in_ok-push.ensures.ok
    ∙ ap (λ (sizes : List ℕ). sizes ++ c.unsigned_abs.result ∷ []) c.loop-i.invariant
    ∙ ap (λ (n : ℕ). map unsigned_abs (take c.loop-i.i c.args.row.now) ++ n ∷ []) (size ∙ ap unsigned_abs (sym at))
    ∙ sym (map_more unsigned_abs c.args.row.now c.loop-i.i (pos 0) (omega arith))
