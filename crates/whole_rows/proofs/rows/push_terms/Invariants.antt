use Rattle.std.proofs.Common.{◌≡◌, take, length}
use Rattle.whole_rows.specs.Columns.{with_terms}
use Rattle.whole_rows.proofs.rows.push_terms.Given as goal

abbrev pub invariant-loop-i : goal.invariant-loop-i
invariant-loop-i l =
    (l.columns.items ≡ with_terms l.row l.initial.columns.items (take l.i l.terms)) × (length l.columns.items ≡ length l.initial.columns.items)
