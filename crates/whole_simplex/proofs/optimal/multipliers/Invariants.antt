use Rattle.std.proofs.Common.{◌≡◌, take, drop, length, false}
use Rattle.std.specs.List.{list_any}
use Rattle.whole_rows.specs.Row.{AreInRange}
use Rattle.whole_simplex.specs.Outcome.{is_large}
use Rattle.whole_simplex.proofs.optimal.multipliers.Given as goal

abbrev pub invariant-loop-row : goal.invariant-loop-row
invariant-loop-row l =
    (l.multipliers.items ≡ take l.row (drop (length l.rows.costs) l.objective))
    × AreInRange l.multipliers.items × (list_any is_large l.multipliers.items ≡ false)
