-- The parts in order.
use Rattle.std.proofs.Common.{◌≡◌, ℕ, List, ℤ, ◌++◌, pos, neg_ℤ, length, map, replicate, ap, sym, ◌∙◌, subst}
use Rattle.std.specs.Prelude.{IfOk}
use Rattle.whole_rows.specs.Row.{AreInRange}
use Rattle.whole_simplex.proofs.Building.{objective_put_together, objective_in_range}
use Rattle.whole_simplex.proofs.table.first_objective.Goals as goal

pub from_vec-requires : goal.from_vec-requires
from_vec-requires c =
    let d = c.args.rows.now in
    let first : c.push_negated_costs.new.entries.items ≡ map neg_ℤ d.costs = c.in_ok-push_negated_costs.ensures ∙ ap (λ l. l ++ map neg_ℤ d.costs) c.new-entries.ensures.items in
    let zeros : c.push_zeros.new.entries.items ≡ c.push_negated_costs.new.entries.items ++ replicate (length d.rows) (pos 0) =
    c.in_ok-push_zeros.ensures ∙ ap (λ (n : ℕ). c.push_negated_costs.new.entries.items ++ replicate n (pos 0)) c.row_count.ensures.value in
    let whole = objective_put_together (length d.rows) d.costs c.push_negated_costs.new.entries.items c.push_zeros.new.entries.items c.push.new.self.items c.push-2.new.self.items first zeros c.in_ok-push.ensures.items c.in_ok-push-2.ensures.items in
    subst AreInRange (sym whole) (objective_in_range d.costs (length d.rows) c.row_count.ensures.rows.costs_in_range)

pub returns : goal.returns
returns c =
    let d = c.args.rows.now in
    let first : c.push_negated_costs.new.entries.items ≡ map neg_ℤ d.costs = c.in_ok-push_negated_costs.ensures ∙ ap (λ l. l ++ map neg_ℤ d.costs) c.new-entries.ensures.items in
    let zeros : c.push_zeros.new.entries.items ≡ c.push_negated_costs.new.entries.items ++ replicate (length d.rows) (pos 0) =
    c.in_ok-push_zeros.ensures ∙ ap (λ (n : ℕ). c.push_negated_costs.new.entries.items ++ replicate n (pos 0)) c.row_count.ensures.value in
    subst (λ (l : List ℤ). IfOk c.from_row.result (λ objective. objective ≡ l))
    (c.from_vec.ensures ∙ objective_put_together (length d.rows) d.costs c.push_negated_costs.new.entries.items c.push_zeros.new.entries.items c.push.new.self.items c.push-2.new.self.items first zeros c.in_ok-push.ensures.items c.in_ok-push-2.ensures.items)
    c.from_row.ensures
