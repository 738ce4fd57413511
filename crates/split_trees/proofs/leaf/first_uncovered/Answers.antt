use Rattle.std.proofs.Common.{◌++◌, pos, ◌*ℤ◌, ◌<ℤ◌, sym, arith}
use Rattle.std.proofs.lemmas.Bool.{false≢true}
use Rattle.std.proofs.lemmas.Int.{by_lt_z}
use Rattle.whole_rows.specs.Rows.{cost_at, column_sum}
use Rattle.whole_rows.proofs.Verdicts.{uncovered_none, uncovered_some}
use Rattle.split_trees.specs.Sides.{split_rows}
use Rattle.split_trees.proofs.leaf.first_uncovered.Goals as goal

pub returns-then-not-is_covered : goal.returns-then-not-is_covered
returns-then-not-is_covered c =
    let says = c.if-not-is_covered.ensures in
    let all = c.args.own.now ++ c.args.cuts.now in
    let rows = split_rows c.args.rows.now c.args.sides.now in
    let short : column_sum (split_rows c.args.rows.now c.args.sides.now) (c.args.own.now ++ c.args.cuts.now) c.loop-column.column
    <ℤ (pos c.args.denominator *ℤ cost_at c.args.rows.now c.loop-column.column) =
    by_lt_z (column_sum rows all c.loop-column.column) (pos c.args.denominator *ℤ cost_at c.args.rows.now c.loop-column.column) (λ l. l)
    (λ h. absurd (false≢true (says.1 h))) in
    sym (uncovered_some rows all c.args.denominator c.loop-column.column (omega (arith, c.column_count-column-end.ensures)) c.loop-column.invariant short)

pub returns : goal.returns
returns c =
    sym (uncovered_none (split_rows c.args.rows.now c.args.sides.now) (c.args.own.now ++ c.args.cuts.now) c.args.denominator
    (λ j h. c.loop-column.invariant j (omega (arith, c.column_count-column-end.ensures))))
