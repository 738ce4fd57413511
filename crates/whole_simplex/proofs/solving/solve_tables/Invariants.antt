use Rattle.std.proofs.Common.{◌≡◌, ◌-◌}
use Rattle.whole_simplex.specs.Faults.{IsAt}
use Rattle.whole_simplex.specs.Outcome.{outcome_from}
use Rattle.whole_simplex.proofs.solving.solve_tables.Given as goal

abbrev pub invariant-loop-number : goal.invariant-loop-number
invariant-loop-number l =
    IsAt l.rows l.number l.lines.items l.objective × (outcome_from l.rows (l.pivots - l.number) l.number ≡ outcome_from l.rows l.pivots 0)
