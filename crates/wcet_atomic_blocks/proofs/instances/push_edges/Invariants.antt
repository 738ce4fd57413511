use Rattle.std.proofs.Common.{◌≡◌, ◌++◌, map}
use Rattle.std.specs.Prelude.{filter}
use Rattle.std.specs.List.{range_with_len}
use Rattle.wcet_atomic_blocks.specs.Loops.{id_passes, edge_id}
use Rattle.wcet_atomic_blocks.specs.Working.Wanted.{edge_test}
use Rattle.wcet_atomic_blocks.proofs.instances.push_edges.Given as goal

abbrev pub invariant-loop-i : goal.invariant-loop-i
invariant-loop-i l =
    l.ids ≡ l.fn.ids ++ filter (id_passes l.flow (edge_test l.wanted l.head l.range)) (map (edge_id l.number) (range_with_len 0 l.i))
