use Rattle.std.proofs.Common.{◌++◌, ◌∷◌, [], List, ℤ, take, sym, ◌∙◌, ap, arith}
use Rattle.std.proofs.lemmas.Int.{to_z-of_z}
use Rattle.std.specs.Int.{w128}
use mir.Val.{SFits}
use Rattle.whole_rows.specs.Rows.{row_at}
use Rattle.whole_rows.specs.declared.Term.{Term}
use Rattle.whole_rows.proofs.Combinations.{fits_from_range}
use Rattle.row_squeeze.specs.Working.Parts.{terms_from}
use Rattle.row_squeeze.proofs.Sizes.{row_width}
use Rattle.row_squeeze.proofs.Terms.{terms_more}
use Rattle.cut_search.proofs.nodes.row_terms.Goals as goal

pub loop-column-preserved : goal.loop-column-preserved
loop-column-preserved c =
    let row = row_at c.args.base.now c.args.row in
    let i = c.loop-column.column in
    let fits : SFits w128 c.entry.result = fits_from_range c.entry.result c.entry.ensures.in_range in
    let width = row_width c.args.base.now c.args.row c.requires.rows c.requires.row in
    let pushed = simp to_z-of_z at c.in_ok-push_entry.ensures in
    pushed
    ∙ ap (λ (terms : List Term). terms ++ terms_from c.loop-column.column (c.entry.result ∷ [])) c.loop-column.invariant
    ∙ ap (λ (x : ℤ). terms_from 0 (take i row) ++ terms_from c.loop-column.column (x ∷ [])) c.entry.ensures.value
    ∙ sym (terms_more row i (omega arith))
