use Rattle.std.proofs.Common.{◌≡◌}
use Rattle.std.specs.Prelude.{filter}
use Rattle.std.specs.List.{range_with_len, flat_map}
use Rattle.wcet_atomic_blocks.specs.Loops.{id_passes, is_back, edges_from}
use Rattle.wcet_atomic_blocks.proofs.instances.backs_of.Given as goal

abbrev pub invariant-loop-place : goal.invariant-loop-place
invariant-loop-place l = l.ids ≡ filter (id_passes l.flow (is_back l.head l.range)) (flat_map (edges_from l.flow) (range_with_len 0 l.place))
