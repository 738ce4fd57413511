-- The parts in order.
use Rattle.std.proofs.Common.{◌≡◌, ◌-◌, ◌++◌, ◌∷◌, [], ℤ, pos, List, length, ap, sym, ◌∙◌, subst, arith}
use Rattle.std.specs.Prelude.{IfOk}
use Rattle.std.proofs.lemmas.Int.{to_z-of_z}
use Rattle.std.specs.Int.{w128}
use mir.Val.{SFits}
use Rattle.whole_rows.proofs.Combinations.{fits_from_range}
use Rattle.whole_rows.specs.Row.{IsInRange, AreInRange}
use Rattle.whole_rows.specs.Rows.{row_at, right_at}
use Rattle.whole_simplex.specs.Tables.{unit_row}
use Rattle.whole_simplex.proofs.Building.{line_put_together, line_in_range}
use Rattle.whole_simplex.proofs.table.wide_entries.Goals as goal

pub push_columns-requires-clause-fits : goal.push_columns-requires-clause-fits
push_columns-requires-clause-fits c = c.row_count-count.ensures.rows.shape.rows_fit c.args.row [] c.requires.row

pub from_vec-requires : goal.from_vec-requires
from_vec-requires c =
    let d = c.args.rows.now in
    let i = c.args.row in
    let fits : SFits w128 c.right.result = fits_from_range c.right.result c.right.ensures.in_range in
    let last : c.push-3.new.self.items ≡ c.push-2.new.self.items ++ c.right.result ∷ [] = simp to_z-of_z at c.in_ok-push-3.ensures.items in
    let first : c.push_columns.new.entries.items ≡ row_at d i = c.in_ok-push_columns.ensures ∙ ap (λ l. l ++ row_at d i) c.new-entries.ensures.items in
    let whole : c.push-3.new.self.items ≡ row_at d i ++ unit_row (length d.rows) i ++ pos 0 ∷ right_at d i ∷ [] =
    line_put_together (length d.rows) i (c.row_count-count.result - i - 1) (row_at d i) _ _ _ _ _ c.push-3.new.self.items (right_at d i)
    (omega (arith, c.row_count-count.ensures.value, c.requires.row)) first c.in_ok-push_zeros.ensures c.in_ok-push.ensures.items c.in_ok-push_zeros-2.ensures c.in_ok-push-2.ensures.items
    (last ∙ ap (λ x. c.push-2.new.self.items ++ x ∷ []) c.right.ensures.value) in
    let rows = c.row_count-count.ensures.rows in
    subst AreInRange (sym whole) (line_in_range (row_at d i) (length d.rows) i (right_at d i) (rows.entries_in_range i [] c.requires.row) (subst IsInRange c.right.ensures.value c.right.ensures.in_range))

pub returns : goal.returns
returns c =
    let d = c.args.rows.now in
    let i = c.args.row in
    let fits : SFits w128 c.right.result = fits_from_range c.right.result c.right.ensures.in_range in
    let last : c.push-3.new.self.items ≡ c.push-2.new.self.items ++ c.right.result ∷ [] = simp to_z-of_z at c.in_ok-push-3.ensures.items in
    let first : c.push_columns.new.entries.items ≡ row_at d i = c.in_ok-push_columns.ensures ∙ ap (λ l. l ++ row_at d i) c.new-entries.ensures.items in
    let whole : c.push-3.new.self.items ≡ row_at d i ++ unit_row (length d.rows) i ++ pos 0 ∷ right_at d i ∷ [] =
    line_put_together (length d.rows) i (c.row_count-count.result - i - 1) (row_at d i) _ _ _ _ _ c.push-3.new.self.items (right_at d i)
    (omega (arith, c.row_count-count.ensures.value, c.requires.row)) first c.in_ok-push_zeros.ensures c.in_ok-push.ensures.items c.in_ok-push_zeros-2.ensures c.in_ok-push-2.ensures.items
    (last ∙ ap (λ x. c.push-2.new.self.items ++ x ∷ []) c.right.ensures.value) in
    subst (λ (l : List ℤ). IfOk c.from_row.result (λ entries. entries ≡ l)) (c.from_vec.ensures ∙ whole) c.from_row.ensures
