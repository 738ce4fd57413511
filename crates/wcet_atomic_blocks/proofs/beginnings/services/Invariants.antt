use Rattle.std.proofs.Common.{◌≡◌}
use Rattle.std.specs.Prelude.{filter}
use Rattle.std.specs.List.{range_with_len}
use Rattle.wcet_atomic_blocks.specs.Blocks.{is_service}
use Rattle.wcet_atomic_blocks.proofs.beginnings.services.Given as goal

abbrev pub invariant-loop-node : goal.invariant-loop-node
invariant-loop-node l = l.services.items ≡ filter (is_service l.flow) (range_with_len 0 l.node)
