use Rattle.std.proofs.Common.{◌≡◌, take}
use Rattle.whole_rows.specs.Row.{AreInRange}
use Rattle.foundation_tests.proofs.whole_rows_calls.row_of.Given as goal

abbrev pub invariant-loop-number : goal.invariant-loop-number
invariant-loop-number l = (l.entries.items ≡ take l.number-index l.numbers) × AreInRange l.entries.items
