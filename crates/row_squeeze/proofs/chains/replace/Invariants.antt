use Rattle.std.proofs.Common.{◌≡◌, ◌++◌, ◌==◌, cond, map, take, drop}
use Rattle.row_squeeze.proofs.chains.replace.Given as goal

abbrev pub invariant-loop-i : goal.invariant-loop-i
invariant-loop-i l =
    l.heads ≡ map (λ head. cond (head == l.from) l.to head) (take l.i l.initial.heads) ++ drop l.i l.initial.heads
