use Rattle.std.proofs.Common.{◌≡◌, ◌++◌}
use Rattle.std.specs.Prelude.{filter_map, slice_get, option_and_then}
use Rattle.std.specs.List.{range_with_len}
use Rattle.wcet_atomic_blocks.specs.Loops.{instance_at}
use Rattle.wcet_atomic_blocks.proofs.instances.push_instances.Given as goal

abbrev pub invariant-loop-declared : goal.invariant-loop-declared
invariant-loop-declared l =
    l.found ≡ l.fn.found ++ filter_map (λ declared. option_and_then (instance_at l.flow l.blocks l.head declared) (slice_get l.loops declared))
    (range_with_len 0 l.declared)
