use Rattle.std.proofs.Common.{◌≡◌, ◌∷◌, [], ◌++◌, List, ℤ, map, length, take, pos, sym, ◌∙◌, ap, arith}
use Rattle.std.proofs.lemmas.Int.{to_z-of_z}
use Rattle.std.proofs.lemmas.List.{map-append, take_more}
use Rattle.std.proofs.lemmas.List.Elements.{All-get_or}
use Rattle.std.specs.Int.{w128}
use mir.Val.{SFits}
use Rattle.whole_rows.specs.Row.{AreInRange}
use Rattle.whole_rows.specs.Rows.{RowsData, row_at}
use Rattle.whole_rows.specs.Terms.{row_of_terms}
use Rattle.whole_rows.proofs.Combinations.{fits_from_range}
use Rattle.row_squeeze.proofs.Sizes.{row_width}
use Rattle.cut_search.specs.Working.Nodes.{padded}
use Rattle.cut_search.proofs.NodeRows.{padded_row, padded_terms}
use Rattle.cut_search.proofs.nodes.push_base.Goals as goal

pub push_row-requires-clause-left : goal.push_row-requires-clause-left
push_row-requires-clause-left c =
    let d = c.args.base.now in
    let i = c.loop-row.row in
    let rows = c.row_count-row-end.ensures.rows in
    let width = row_width d i rows (omega arith) in
    let range = All-get_or AreInRange d.rows i [] (omega arith) rows.entries_in_range in
    let are = padded_terms (length c.args.rows.now.costs) (row_at d i) (omega (arith, c.requires.width)) range in
    rw (c.loop-row.invariant.costs, c.in_ok-terms.ensures) are

pub loop-row-preserved : goal.loop-row-preserved
loop-row-preserved c =
    let d = c.args.base.now in
    let i = c.loop-row.row in
    let rows = c.row_count-row-end.ensures.rows in
    let width = row_width d i rows (omega arith) in
    let range = All-get_or AreInRange d.rows i [] (omega arith) rows.entries_in_range in
    let is = padded_row (length c.args.rows.now.costs) (row_at d i) (omega (arith, c.requires.width)) range in
    let fits : SFits w128 c.right.result = fits_from_range c.right.result c.right.ensures.in_range in
    let pushed = simp to_z-of_z at c.in_ok-push_row.ensures.ok in
    let row : row_of_terms (length c.loop-row.rows.costs) c.in_ok-terms.terms ≡ padded (length c.args.rows.now.costs) (row_at d i) = rw (c.loop-row.invariant.costs, c.in_ok-terms.ensures) is in
    record {
      costs = ap (λ (r : RowsData). r.costs) pushed ∙ c.loop-row.invariant.costs;
      rows = ap (λ (r : RowsData). r.rows) pushed
          ∙ ap (λ (rs : List (List ℤ)). rs ++ row_of_terms (length c.loop-row.rows.costs) c.in_ok-terms.terms ∷ []) c.loop-row.invariant.rows
          ∙ ap (λ (r : List ℤ). map (padded (length c.args.rows.now.costs)) (take i d.rows) ++ r ∷ []) row
          ∙ sym (map-append (padded (length c.args.rows.now.costs)) (take i d.rows) (row_at d i ∷ []))
          ∙ ap (map (padded (length c.args.rows.now.costs))) (sym (take_more d.rows i [] (omega arith)));
      rights = ap (λ (r : RowsData). r.rights) pushed
          ∙ ap (λ (rs : List ℤ). rs ++ c.right.result ∷ []) c.loop-row.invariant.rights
          ∙ ap (λ (x : ℤ). take i d.rights ++ x ∷ []) c.right.ensures.value
          ∙ sym (take_more d.rights i (pos 0) (omega (arith, rows.shape.rights_fit)));
    }
