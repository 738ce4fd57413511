use Rattle.std.proofs.Common.{◌≡◌, map, take}
use Rattle.std.specs.List.{range_with_len}
use Rattle.row_squeeze.specs.Squeezed.{kept, merged}
use Rattle.row_squeeze.proofs.squeezing.push_kept.Given as goal

abbrev pub invariant-loop-row : goal.invariant-loop-row
invariant-loop-row l = record {
  costs : l.squeezed.costs ≡ l.initial.squeezed.costs;
  rows : l.squeezed.rows ≡ map (merged l.chains.count l.chains.places.items) (kept (take l.row l.links) (take l.row l.rows.rows));
  rights : l.squeezed.rights ≡ kept (take l.row l.links) (take l.row l.rows.rights);
  kept_rows : l.kept_rows ≡ kept (take l.row l.links) (range_with_len 0 l.row);
}
