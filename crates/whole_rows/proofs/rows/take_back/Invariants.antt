use Rattle.std.proofs.Common.{ℕ, List, ◌≡◌, ◌≤◌, length, take}
use Rattle.whole_rows.specs.Columns.{with_terms}
use Rattle.whole_rows.specs.declared.RowTerm.{RowTerm}
use Rattle.whole_rows.proofs.rows.take_back.Given as goal

abbrev pub invariant-loop-left : goal.invariant-loop-left
invariant-loop-left l =
    (l.left ≤ length l.terms) × (length l.columns.items ≡ length l.initial.columns.items) × ((before : List (List RowTerm)) (row : ℕ) → l.initial.columns.items ≡ with_terms row before l.terms → l.columns.items ≡ with_terms row before (take l.left l.terms))

abbrev pub decreases-loop-left : goal.decreases-loop-left
decreases-loop-left l = l.left
