-- The parts in order.
use Rattle.std.proofs.Common.{◌≡◌, ◌-◌, ◌++◌, ◌∷◌, [], length, true, refl, ap, ◌∙◌, arith, rules}
use Rattle.std.proofs.lemmas.Int.{to_z-of_z}
use Rattle.std.specs.Int.{w64, w128}
use mir.Val.{SFits}
use Rattle.whole_rows.proofs.Combinations.{fits_from_range}
use Rattle.whole_rows.specs.Rows.{row_at, right_at}
use Rattle.whole_simplex.proofs.Building.{line_put_together}
use Rattle.whole_simplex.proofs.table.narrow_entries.Goals as goal

pub returns : goal.returns
returns c = λ entries is.
    let d = c.args.rows.now in
    let i = c.args.row in
    let fits : SFits w128 c.right.result = fits_from_range c.right.result c.right.ensures.in_range in
    let read : c.in-Some.right ≡ c.right.result = simp to_z-of_z at (c.in-Some.ensures c.in-Some.right refl) in
    let narrow_fits : SFits w64 c.in-Some.right = search rules in
    let pushed : c.push-3.new.self.items ≡ c.push-2.new.self.items ++ c.in-Some.right ∷ [] = simp to_z-of_z at c.in_ok-push-3.ensures.items in
    let done : c.in_ok-push_narrow_columns.field-0 ≡ true = search rules in
    let first : c.push_narrow_columns.new.entries.items ≡ row_at d i = c.in_ok-push_narrow_columns.ensures done ∙ ap (λ l. l ++ row_at d i) c.in_ok-entries.ensures.items in
    let last : c.push-3.new.self.items ≡ c.push-2.new.self.items ++ right_at d i ∷ [] =
    pushed ∙ ap (λ x. c.push-2.new.self.items ++ x ∷ []) (read ∙ c.right.ensures.value) in
    c.from_narrow.ensures entries is
    ∙ line_put_together (length d.rows) i (c.row_count-count.result - i - 1) (row_at d i) _ _ _ _ _ c.push-3.new.self.items (right_at d i)
    (omega (arith, c.row_count-count.ensures.value, c.requires.row)) first c.in_ok-push_narrow_zeros.ensures c.in_ok-push.ensures.items c.in_ok-push_narrow_zeros-2.ensures c.in_ok-push-2.ensures.items last
