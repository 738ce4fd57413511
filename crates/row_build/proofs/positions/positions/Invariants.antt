use Rattle.std.proofs.Common.{map}
use Rattle.std.specs.Prelude.{filter}
use Rattle.std.specs.List.{range_with_len}
use Rattle.row_build.specs.Columns.{is_position}
use Rattle.row_build.specs.Working.Numbered.{ArePositions, start_of}
use Rattle.row_build.proofs.positions.positions.Given as goal

abbrev pub invariant-loop-node : goal.invariant-loop-node
invariant-loop-node l =
    ArePositions l.plant l.nodes (filter (is_position l.plant (map (start_of l.states) l.starts) l.task) (range_with_len 0 l.node))
