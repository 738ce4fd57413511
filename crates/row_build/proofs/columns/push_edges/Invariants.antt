use Rattle.std.proofs.Common.{map}
use Rattle.std.specs.Prelude.{if◌then◌else◌, []}
use Rattle.std.specs.List.{flat_map, range_with_len}
use Rattle.wcet_atomic_blocks.specs.Blocks.{edges_at, is_service}
use Rattle.row_build.specs.Columns as words
use Rattle.row_build.specs.Working.Growing.{Adds}
use Rattle.row_build.specs.Working.Numbered.{IsColumn, column_of}
use Rattle.row_build.proofs.columns.push_edges.Given as goal

abbrev pub invariant-loop-node : goal.invariant-loop-node
invariant-loop-node l =
    Adds (column_of l.states) (IsColumn l.plant l.states) l.fn.found l.found
    (map words.Goes (flat_map (λ node. if is_service l.plant.flow node then [] else words.alongs_at node 0 (edges_at l.plant.flow node)) (range_with_len 0 l.node)))
