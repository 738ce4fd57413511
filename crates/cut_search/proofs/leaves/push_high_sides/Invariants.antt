use Rattle.std.proofs.Common.{◌≡◌, ◌++◌}
use Rattle.cut_search.specs.Leaves.{high_sides}
use Rattle.cut_search.proofs.leaves.push_high_sides.Given as goal

abbrev pub invariant-loop-k : goal.invariant-loop-k
invariant-loop-k l = l.sides ≡ l.initial.sides ++ high_sides l.column l.k
