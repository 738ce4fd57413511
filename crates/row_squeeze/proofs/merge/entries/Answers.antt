-- One entry more, and how large they are.
use Rattle.std.proofs.Common.{◌≡◌, ◌++◌, ◌∷◌, [], pos, List, ℤ, take, sym, ◌∙◌, ap, arith}
use Rattle.std.proofs.lemmas.Int.{to_z-of_z}
use Rattle.std.proofs.lemmas.List.{take_all, take_more}
use Rattle.std.specs.Int.{w128}
use mir.Val.{SFits}
use Rattle.whole_rows.specs.Rows.{row_at, entry_at}
use Rattle.whole_rows.proofs.Combinations.{fits_from_range}
use Rattle.row_squeeze.proofs.Sizes.{row_width, row_short}
use Rattle.row_squeeze.proofs.merge.entries.Goals as goal

pub loop-column-preserved : goal.loop-column-preserved
loop-column-preserved c =
    let row = row_at c.args.rows.now c.args.row in
    let i = c.loop-column.column in
    let fits : SFits w128 c.entry.result = fits_from_range c.entry.result c.entry.ensures.in_range in
    let items = simp to_z-of_z at c.in_ok-push.ensures.items in
    let width = row_width c.args.rows.now c.args.row c.requires.rows c.requires.row in
    let more = take_more row i (pos 0) (omega arith) in
    items ∙ ap (λ (x : ℤ). c.loop-column.entries.items ++ x ∷ []) c.entry.ensures.value ∙ ap (λ (xs : List ℤ). xs ++ entry_at c.args.rows.now c.args.row c.loop-column.column ∷ []) c.loop-column.invariant ∙ sym more

pub returns-clause-value : goal.returns-clause-value
returns-clause-value c =
    let width = row_width c.args.rows.now c.args.row c.requires.rows c.requires.row in
    c.loop-column.invariant ∙ take_all c.loop-column.column (row_at c.args.rows.now c.args.row) (omega arith)

pub returns-clause-short : goal.returns-clause-short
returns-clause-short c =
    let width = row_width c.args.rows.now c.args.row c.requires.rows c.requires.row in
    let whole : take c.loop-column.column (row_at c.args.rows.now c.args.row) ≡ row_at c.args.rows.now c.args.row = take_all c.loop-column.column (row_at c.args.rows.now c.args.row) (omega arith) in
    rw (c.loop-column.invariant, whole) (row_short c.args.rows.now c.args.row c.requires.rows c.requires.sizes c.requires.row)
