use Rattle.std.proofs.Common.{◌≡◌, ◌-◌, length, All}
use Rattle.whole_simplex.specs.Answers.{IsSmall}
use Rattle.row_squeeze.specs.Lift.{lifted, rows_from}
use Rattle.row_squeeze.proofs.lift.lift_chain.Given as goal

abbrev pub invariant-loop-passed : goal.invariant-loop-passed
invariant-loop-passed l = record {
  rest : lifted l.rows l.links l.fn.denominator l.fn.multipliers (rows_from (length l.links) l.links l.fn.end)
      ≡ lifted l.rows l.links l.fn.denominator l.multipliers (rows_from (length l.links - l._passed) l.links l.column);
  small : All IsSmall l.multipliers;
}
