-- The search halves the places that may hold the row.
use Rattle.std.proofs.Common.{◌≡◌, ◌<◌, ◌≤◌, ◌+◌, ◌-◌, ◌/◌, ℕ, length, get_or, pos, rules, sym, subst, arith}
use Rattle.std.proofs.lemmas.Int.{to_z-of_z}
use Rattle.std.specs.Int.{w128}
use mir.Val.{SFits}
use Rattle.whole_rows.specs.declared.RowTerm.{RowTerm}
use Rattle.whole_rows.specs.Columns.{entry_in}
use Rattle.whole_rows.proofs.Dense.{entry_in-at, entry_in-between, lower_half, upper_half}
use Rattle.whole_rows.proofs.column.entry_at_row.Goals as goal

none : RowTerm
none = record { row = 0; entry = pos 0 }

pub returns-then-term-row : goal.returns-then-term-row
unfolding none
returns-then-term-row c =
    let terms = c.args.terms.now in
    let middle : ℕ = c.loop-low.low + (c.loop-low.high - c.loop-low.low) / 2 in
    let within : c.loop-low.low + (c.loop-low.high - c.loop-low.low) / 2 < length c.args.terms.now = omega (arith, c.loop-low.invariant.0) in
    let fits : SFits w128 (get_or c.args.terms.now (c.loop-low.low + (c.loop-low.high - c.loop-low.low) / 2) none).entry = search rules in
    simp to_z-of_z (sym (subst (λ (r : ℕ). entry_in terms r ≡ (get_or terms middle none).entry) c.if-term-row.true (entry_in-at terms middle none c.requires within)))

pub loop-low-preserved-then-term-row-2 : goal.loop-low-preserved-then-term-row-2
unfolding none
loop-low-preserved-then-term-row-2 c =
    let middle : ℕ = c.loop-low.low + (c.loop-low.high - c.loop-low.low) / 2 in
    let within : c.loop-low.low + (c.loop-low.high - c.loop-low.low) / 2 < length c.args.terms.now = omega (arith, c.loop-low.invariant.0) in
    (c.loop-low.invariant.0, lower_half c.args.terms.now middle c.args.row none c.requires within c.if-term-row-2.true, c.loop-low.invariant.2)

pub loop-low-preserved : goal.loop-low-preserved
unfolding none
loop-low-preserved c =
    let middle : ℕ = c.loop-low.low + (c.loop-low.high - c.loop-low.low) / 2 in
    let above : c.args.row < (get_or c.args.terms.now (c.loop-low.low + (c.loop-low.high - c.loop-low.low) / 2) none).row = omega (arith, c.if-term-row.false, c.if-term-row-2.false) in
    (omega (arith, c.loop-low.invariant.0), c.loop-low.invariant.1, upper_half c.args.terms.now middle c.args.row none c.requires above)

pub returns : goal.returns
returns c =
    let ended : c.loop-low.high ≤ c.loop-low.low = omega arith in
    sym (entry_in-between c.args.terms.now c.loop-low.high c.args.row (λ i d h k. c.loop-low.invariant.1 i d (omega arith) k) c.loop-low.invariant.2)
