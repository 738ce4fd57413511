use Rattle.std.proofs.Common.{◌≡◌, ◌++◌, map, take, drop, pos, int_div}
use Rattle.whole_rows.specs.Row.{AreInRange}
use Rattle.whole_rows.proofs.row.divide.Given as goal

abbrev pub invariant-loop-i : goal.invariant-loop-i
invariant-loop-i l =
    (l.entries.items ≡ map (λ x. int_div x (pos l.divisor)) (take l.i l.initial.entries.items) ++ drop l.i l.initial.entries.items) × AreInRange l.entries.items
