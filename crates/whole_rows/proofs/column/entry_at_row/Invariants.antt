use Rattle.std.proofs.Common.{ℕ, ◌<◌, ◌≤◌, ◌-◌, length, get_or}
use Rattle.whole_rows.specs.declared.RowTerm.{RowTerm}
use Rattle.whole_rows.proofs.column.entry_at_row.Given as goal

abbrev pub invariant-loop-low : goal.invariant-loop-low
invariant-loop-low l =
    (l.high ≤ length l.terms) × ((i : ℕ) (d : RowTerm) → i < l.low → i < length l.terms → (get_or l.terms i d).row < l.row) × ((i : ℕ) (d : RowTerm) → l.high ≤ i → i < length l.terms → l.row < (get_or l.terms i d).row)

abbrev pub decreases-loop-low : goal.decreases-loop-low
decreases-loop-low l = l.high - l.low
