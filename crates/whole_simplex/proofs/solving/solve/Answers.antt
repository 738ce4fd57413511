-- The outcome of the tables, and what it promises of the rows.
use Rattle.std.proofs.Common.{◌≡◌, ◌+◌, ◌*◌, ℕ, length, ap, ◌∙◌}
use Rattle.std.specs.Prelude.{nat_lt}
use Rattle.whole_simplex.specs.Outcome.{SaysOutcome, outcome_of, table_size}
use Rattle.whole_simplex.proofs.Sound.{answer_optimum, answer_fault, says_size}
use Rattle.whole_simplex.proofs.solving.solve.Goals as goal

pub returns : goal.returns
returns c =
    let size : c.is_too_large.result ≡ nat_lt 16777216 (table_size c.args.rows.now) =
    c.is_too_large.ensures ∙ ap (λ (n : ℕ). nat_lt 16777216 (n * (c.column_count-columns.result + n + 2))) c.row_count-count.ensures.value
    ∙ ap (λ (n : ℕ). nat_lt 16777216 (length c.args.rows.now.rows * (n + length c.args.rows.now.rows + 2))) c.column_count-columns.ensures in
    let says : SaysOutcome c.args.rows.now c.args.pivots (outcome_of c.args.rows.now c.args.pivots) c.solve_tables.result =
    says_size c.args.rows.now c.args.pivots c.is_too_large.result c.solve_tables.result size c.if-is_too_large.false c.solve_tables.ensures in
    record {
      outcome = says;
      optimum = answer_optimum c.args.rows.now c.args.pivots c.solve_tables.result c.row_count-count.ensures.rows says;
      ray = answer_fault c.args.rows.now c.args.pivots c.solve_tables.result c.row_count-count.ensures.rows says;
    }
