-- One column more at each turn.
use Rattle.std.proofs.Common.{◌≡◌, ◌<◌, ◌++◌, ◌∷◌, [], ℤ, pos, List, length, take, ap, sym, ◌∙◌, append_assoc, arith}
use Rattle.std.proofs.lemmas.Int.{to_z-of_z}
use Rattle.std.proofs.lemmas.List.{take_more, take_all}
use Rattle.std.specs.Int.{w128}
use mir.Val.{SFits}
use Rattle.whole_rows.proofs.Combinations.{fits_from_range}
use Rattle.whole_rows.specs.Rows.{row_at}
use Rattle.whole_simplex.proofs.table.push_columns.Goals as goal

pub loop-column-preserved : goal.loop-column-preserved
loop-column-preserved c =
    let row : List ℤ = row_at c.args.rows.now c.args.row in
    let column = c.loop-column.column in
    let start : List ℤ = c.args.entries.now.items in
    let fits : SFits w128 c.entry.result = fits_from_range c.entry.result c.entry.ensures.in_range in
    let items : c.push.new.self.items ≡ c.loop-column.entries.items ++ c.entry.result ∷ [] = simp to_z-of_z at c.in_ok-push.ensures.items in
    let below : column < length row = omega (arith, c.requires.fits) in
    items ∙ ap (λ l. l ++ c.entry.result ∷ []) c.loop-column.invariant
    ∙ append_assoc start (take column row) (c.entry.result ∷ [])
    ∙ ap (λ x. start ++ (take column row ++ x ∷ [])) c.entry.ensures.value
    ∙ ap (λ l. start ++ l) (sym (take_more row column (pos 0) below))

pub returns : goal.returns
returns c =
    let row : List ℤ = row_at c.args.rows.now c.args.row in
    c.loop-column.invariant ∙ ap (λ l. c.args.entries.now.items ++ l) (take_all c.loop-column.column row (omega (arith, c.requires.fits)))
