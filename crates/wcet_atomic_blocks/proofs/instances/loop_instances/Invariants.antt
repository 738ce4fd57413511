use Rattle.std.proofs.Common.{◌≡◌}
use Rattle.std.specs.List.{range_with_len, flat_map}
use Rattle.wcet_atomic_blocks.specs.Loops.{instances_from}
use Rattle.wcet_atomic_blocks.proofs.instances.loop_instances.Given as goal

abbrev pub invariant-loop-number : goal.invariant-loop-number
invariant-loop-number l = l.found ≡ flat_map (instances_from l.flow l.blocks l.timing.loops) (range_with_len 0 l.number)
