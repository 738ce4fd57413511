use Rattle.std.proofs.Common.{◌≡◌, take}
use Rattle.whole_rows.specs.Working.Wide.{wide_count}
use Rattle.whole_rows.proofs.row.wide_count.Given as goal

abbrev pub invariant-loop-number : goal.invariant-loop-number
invariant-loop-number l = l.count ≡ wide_count (take l.number-index l.numbers)
