use Rattle.std.proofs.Common.{◌≡◌, ◌-◌, length, All}
use Rattle.std.specs.List.{range_with_len, flat_map}
use Rattle.whole_simplex.specs.Answers.{IsSmall}
use Rattle.row_squeeze.specs.Lift.{lifted, rows_of_chain, rows_of_end}
use Rattle.row_squeeze.proofs.lift.lift_place.Given as goal

abbrev pub invariant-loop-column : goal.invariant-loop-column
invariant-loop-column l = record {
  rest : lifted l.rows l.links l.fn.denominator l.fn.multipliers (rows_of_chain l.links l.places l.place)
      ≡ lifted l.rows l.links l.fn.denominator l.multipliers (flat_map (rows_of_end l.links l.places l.place) (range_with_len l.column (length l.places - l.column)));
  small : All IsSmall l.multipliers;
}
