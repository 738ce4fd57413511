use Rattle.std.proofs.Common.{◌≡◌, ◌+◌, take}
use Rattle.cut_search.specs.Nodes.{further_count, limit_rows, with_limit_rows}
use Rattle.cut_search.proofs.nodes.push_limits.Given as goal

abbrev pub invariant-loop-place : goal.invariant-loop-place
invariant-loop-place l = record {
  rows : l.rows ≡ with_limit_rows l.initial.rows (limit_rows l.further (take l.place l.limits));
  next : l.next ≡ l.further + further_count (take l.place l.limits);
}
