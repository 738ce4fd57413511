use Rattle.std.proofs.Common.{◌≡◌, drop}
use Rattle.row_squeeze.specs.Lift.{leaving}
use Rattle.row_squeeze.proofs.lift.leaving.Given as goal

abbrev pub invariant-loop-row : goal.invariant-loop-row
invariant-loop-row l = leaving 0 l.links l.column ≡ leaving l.row (drop l.row l.links) l.column
