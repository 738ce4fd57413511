use Rattle.std.proofs.Common.{◌≡◌, drop}
use Rattle.whole_rows.specs.Row.{combination, AreInRange}
use Rattle.whole_rows.proofs.Combinations.{append_entries}
use Rattle.whole_rows.proofs.row.combined_from.Given as goal

abbrev pub invariant-loop-i : goal.invariant-loop-i
invariant-loop-i l =
    (combination l.row l.p l.pivot_row l.a ≡ append_entries l.entries.items (combination (drop l.i l.row) l.p (drop l.i l.pivot_row) l.a)) × AreInRange l.entries.items
