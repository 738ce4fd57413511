use Rattle.std.proofs.Common.{◌≡◌, map, take}
use Rattle.cut_search.specs.Search.{free}
use Rattle.cut_search.proofs.finding.free_limits.Given as goal

abbrev pub invariant-loop-i : goal.invariant-loop-i
invariant-loop-i l = l.limits.items ≡ map free (take l.i l.columns)
