-- One row more.
use Rattle.std.proofs.Common.{◌≡◌, ◌++◌, [], ◌∷◌, List, ℤ, ℕ, pos, map, get_or, take, None, sym, ◌∙◌, ap, arith}
use Rattle.std.proofs.lemmas.List.{map-append}
use Rattle.whole_rows.specs.Rows.{RowsData, row_at, right_at}
use Rattle.row_squeeze.specs.Squeezed.{kept, merged}
use Rattle.row_squeeze.proofs.Kept.{kept_more, kept_number, kept-map}
use Rattle.row_squeeze.proofs.squeezing.push_kept.Goals as goal

pub loop-row-preserved : goal.loop-row-preserved
loop-row-preserved c =
    let links = c.args.links.now in
    let d = c.args.rows.now in
    let i = c.loop-row.row in
    let merge = merged c.args.chains.now.count c.args.chains.now.places.items in
    let invariant = c.loop-row.invariant in
    let pushed = c.in_ok-push_unlinked.ensures in
    let one : map merge (kept (get_or links i None ∷ []) (row_at d i ∷ [])) ≡ kept (get_or links i None ∷ []) (merge (row_at d i) ∷ []) = sym (kept-map merge (get_or links i None ∷ []) (row_at d i ∷ [])) in
    record {
      costs = ap (λ (r : RowsData). r.costs) pushed.squeezed ∙ invariant.costs;
      rows = ap (λ (r : RowsData). r.rows) pushed.squeezed ∙ ap (λ (rows : List (List ℤ)). rows ++ kept (get_or links i None ∷ []) (merge (row_at d i) ∷ [])) invariant.rows ∙ ap (λ (rows : List (List ℤ)). map merge (kept (take i links) (take i d.rows)) ++ rows) (sym one) ∙ sym (map-append merge (kept (take i links) (take i d.rows)) (kept (get_or links i None ∷ []) (row_at d i ∷ []))) ∙ ap (map merge) (sym (kept_more links d.rows i [] c.requires.counted c.loop-row-test.true));
      rights = ap (λ (r : RowsData). r.rights) pushed.squeezed ∙ ap (λ (rights : List ℤ). rights ++ kept (get_or links i None ∷ []) (right_at d i ∷ [])) invariant.rights ∙ sym (kept_more links d.rights i (pos 0) (omega (arith, c.requires.counted, c.requires.rows.shape.rights_fit)) c.loop-row-test.true);
      kept_rows = pushed.kept ∙ ap (λ (rows : List ℕ). rows ++ kept (get_or links i None ∷ []) (i ∷ [])) invariant.kept_rows ∙ sym (kept_number links i c.loop-row-test.true);
    }
