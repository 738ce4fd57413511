use Rattle.replay.proofs.LapsRows.{MovedBelow}
use Rattle.replay.proofs.laps.row.move_row.Given as goal

abbrev pub invariant-loop-i : goal.invariant-loop-i
invariant-loop-i l = MovedBelow l.loops l.from l.to l.initial.row l.row l.i l.within
