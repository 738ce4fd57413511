use Rattle.std.proofs.Common.{◌≡◌, drop}
use Rattle.std.specs.List.{list_any}
use Rattle.row_squeeze.specs.Lift.{enters}
use Rattle.row_squeeze.proofs.lift.is_entered.Given as goal

abbrev pub invariant-loop-row : goal.invariant-loop-row
invariant-loop-row l = list_any (enters l.column) l.links ≡ list_any (enters l.column) (drop l.row l.links)
