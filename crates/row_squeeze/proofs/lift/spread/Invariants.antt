use Rattle.std.proofs.Common.{◌≡◌, take}
use Rattle.whole_rows.specs.Row.{AreInRange}
use Rattle.row_squeeze.specs.Lift.{spread}
use Rattle.row_squeeze.proofs.lift.spread.Given as goal

abbrev pub invariant-loop-place : goal.invariant-loop-place
invariant-loop-place l = record {
  value : l.full.items ≡ spread (take l.place-index l.places) l.ray;
  in_range : AreInRange l.full.items;
}
