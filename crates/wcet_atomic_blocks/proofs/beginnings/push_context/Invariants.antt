use Rattle.std.proofs.Common.{◌≡◌, ◌++◌, ◌∷◌}
use Rattle.std.specs.Prelude.{filter_map}
use Rattle.std.specs.List.{range_with_len}
use Rattle.wcet_atomic_blocks.specs.Blocks.{at_entry, beginning_behind}
use Rattle.wcet_atomic_blocks.proofs.beginnings.push_context.Given as goal

abbrev pub invariant-loop-node : goal.invariant-loop-node
invariant-loop-node l =
    l.begins.items ≡ l.fn.begins.items ++ at_entry l.context l.entry ∷ filter_map (beginning_behind l.flow l.context) (range_with_len 0 l.node)
