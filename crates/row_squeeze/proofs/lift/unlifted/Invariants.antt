use Rattle.std.proofs.Common.{◌≡◌, ◌++◌, drop}
use Rattle.row_squeeze.specs.Lift.{unlifted}
use Rattle.row_squeeze.proofs.lift.unlifted.Given as goal

abbrev pub invariant-loop-row : goal.invariant-loop-row
invariant-loop-row l =
    l.all.items ++ unlifted (drop l.row l.links) (drop l.next l.multipliers) ≡ unlifted l.links l.multipliers
