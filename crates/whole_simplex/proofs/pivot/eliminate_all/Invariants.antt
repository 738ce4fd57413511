use Rattle.std.proofs.Common.{◌≡◌, ◌++◌, map, take, drop}
use Rattle.std.specs.List.{flat_map}
use Rattle.whole_simplex.specs.Faults.{eliminated_line, eliminated_pairs}
use Rattle.whole_simplex.specs.Outcome.{AreNarrow}
use Rattle.whole_simplex.proofs.pivot.eliminate_all.Given as goal

abbrev pub invariant-loop-i : goal.invariant-loop-i
invariant-loop-i l =
    (l.lines ≡ map (eliminated_line l.place l.pivot) (take l.i l.fn.lines) ++ drop l.i l.fn.lines)
    × AreNarrow (flat_map (eliminated_pairs l.place l.pivot) (take l.i l.fn.lines))
