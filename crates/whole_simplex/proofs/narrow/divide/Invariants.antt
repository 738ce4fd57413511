use Rattle.std.proofs.Common.{◌≡◌, ◌++◌, map, take, drop, pos, int_div}
use Rattle.whole_simplex.proofs.narrow.divide.Given as goal

abbrev pub invariant-loop-i : goal.invariant-loop-i
invariant-loop-i l = l.row ≡ map (λ x. int_div x (pos l.divisor.value)) (take l.i l.fn.row) ++ drop l.i l.fn.row
