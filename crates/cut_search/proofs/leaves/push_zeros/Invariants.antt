use Rattle.std.proofs.Common.{◌≡◌, ◌++◌, replicate}
use Rattle.cut_search.proofs.leaves.push_zeros.Given as goal

abbrev pub invariant-loop-zero : goal.invariant-loop-zero
invariant-loop-zero l = l.found ≡ l.initial.found ++ replicate l._zero 0
