use Rattle.std.proofs.Common.{◌≡◌, map, length, take}
use Rattle.cut_search.specs.Working.Nodes.{padded}
use Rattle.cut_search.proofs.nodes.push_base.Given as goal

abbrev pub invariant-loop-row : goal.invariant-loop-row
invariant-loop-row l = record {
  costs : l.rows.costs ≡ l.initial.rows.costs;
  rows : l.rows.rows ≡ map (padded (length l.initial.rows.costs)) (take l.row l.base.rows);
  rights : l.rows.rights ≡ take l.row l.base.rights;
}
