use Rattle.std.proofs.Common.{◌≡◌, ◌++◌, map, take, drop, ◌*ℤ◌}
use Rattle.whole_simplex.proofs.narrow.scale.Given as goal

abbrev pub invariant-loop-i : goal.invariant-loop-i
invariant-loop-i l = l.row ≡ map (λ x. l.p *ℤ x) (take l.i l.fn.row) ++ drop l.i l.fn.row
