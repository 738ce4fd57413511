use Rattle.std.proofs.Common.{◌≡◌, replicate, pos}
use Rattle.row_squeeze.proofs.merge.zeros.Given as goal

abbrev pub invariant-loop-zero : goal.invariant-loop-zero
invariant-loop-zero l = l.zeros.items ≡ replicate l._zero (pos 0)
