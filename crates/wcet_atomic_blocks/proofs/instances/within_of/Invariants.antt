use Rattle.std.proofs.Common.{◌≡◌}
use Rattle.std.specs.Prelude.{filter}
use Rattle.std.specs.List.{range_with_len}
use Rattle.wcet_atomic_blocks.specs.Loops.{node_passes, lies_within}
use Rattle.wcet_atomic_blocks.proofs.instances.within_of.Given as goal

abbrev pub invariant-loop-number : goal.invariant-loop-number
invariant-loop-number l = l.ids ≡ filter (node_passes l.flow (lies_within l.head l.range)) (range_with_len 0 l.number)
