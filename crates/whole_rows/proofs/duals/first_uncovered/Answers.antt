use Rattle.std.proofs.Common.{pos, ◌*ℤ◌, ◌<ℤ◌, sym, arith}
use Rattle.std.proofs.lemmas.Int.{by_lt_z}
use Rattle.std.proofs.lemmas.Bool.{false≢true}
use Rattle.whole_rows.specs.Rows.{cost_at, column_sum}
use Rattle.whole_rows.proofs.Verdicts.{uncovered_none, uncovered_some}
use Rattle.whole_rows.proofs.duals.first_uncovered.Goals as goal

pub returns-then-not-is_covered : goal.returns-then-not-is_covered
returns-then-not-is_covered c =
    let says = c.if-not-is_covered.ensures in
    let short : column_sum c.args.rows.now c.args.multipliers.now c.loop-column.column <ℤ (pos c.args.denominator *ℤ cost_at c.args.rows.now c.loop-column.column) =
    by_lt_z (column_sum c.args.rows.now c.args.multipliers.now c.loop-column.column) (pos c.args.denominator *ℤ cost_at c.args.rows.now c.loop-column.column) (λ l. l) (λ h. absurd (false≢true (says.1 h))) in
    sym (uncovered_some c.args.rows.now c.args.multipliers.now c.args.denominator c.loop-column.column (omega (arith, c.column_count-column-end.ensures)) c.loop-column.invariant short)

pub returns : goal.returns
returns c =
    sym (uncovered_none c.args.rows.now c.args.multipliers.now c.args.denominator (λ j h. c.loop-column.invariant j (omega (arith, c.column_count-column-end.ensures))))
