use Rattle.std.proofs.Common.{◌≡◌, take}
use Rattle.whole_rows.specs.Row.{AreInRange}
use Rattle.whole_simplex.proofs.entries.widened.Given as goal

abbrev pub invariant-loop-entry : goal.invariant-loop-entry
invariant-loop-entry l = (l.entries.items ≡ take l.entry-index l.narrow) × AreInRange l.entries.items
