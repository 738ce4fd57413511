use Rattle.std.proofs.Common.{sym, ◌∙◌, ◌<◌, subst, ℕ, refl}
use Rattle.trace_check.proofs.Tabling.{rows_more, get_set, is_there}
use Rattle.trace_check.proofs.tables.Tables.fill.Goals as goal

pub returns-in_ok-steps-clause-tables : goal.returns-in_ok-steps-clause-tables
returns-in_ok-steps-clause-tables c = record {
  numbers = c.requires.tables.numbers;
  rows = rows_more c.args.plant.now c.args.states.now c.args.self.now.rows.items c.args.number c.in_ok-steps.steps c.requires.tables.rows c.in_ok-steps.ensures;
}

pub returns-in_ok-steps-clause-there : goal.returns-in_ok-steps-clause-there
returns-in_ok-steps-clause-there c =
    let within = subst (λ (n : ℕ). c.args.number < n) (sym c.requires.tables.rows.count) c.requires.exists in
    (c.in_ok-steps.steps, get_set c.args.self.now.rows.items c.args.number _ within)

pub returns-else-is_none-clause-there : goal.returns-else-is_none-clause-there
returns-else-is_none-clause-there c =
    let within = subst (λ (n : ℕ). c.args.number < n) (sym c.requires.tables.rows.count) c.requires.exists in
    is_there c.args.self.now.rows.items c.args.number c.index.result.now within c.index.ensures
    (c.is_none.ensures ∙ rw (c.if-is_none.false) refl)
