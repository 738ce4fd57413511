use Rattle.std.proofs.Common.{◌≡◌, ◌-◌, All}
use Rattle.std.specs.List.{range_with_len, flat_map}
use Rattle.whole_simplex.specs.Answers.{IsSmall}
use Rattle.row_squeeze.specs.Lift.{lifted, rows_of_chain, lift_from}
use Rattle.row_squeeze.proofs.lift.lift_all.Given as goal

abbrev pub invariant-loop-place : goal.invariant-loop-place
invariant-loop-place l = record {
  rest : lifted l.rows l.links l.fn.denominator l.fn.multipliers (lift_from l.links l.places l.count)
      ≡ lifted l.rows l.links l.fn.denominator l.multipliers (flat_map (rows_of_chain l.links l.places) (range_with_len l.place (l.count - l.place)));
  small : All IsSmall l.multipliers;
}
