use Rattle.std.proofs.Common.{◌≡◌}
use Rattle.std.specs.List.{range_with_len, flat_map}
use Rattle.show_commands.specs.ShowCode.{line_of}
use Rattle.show_commands.proofs.code.text_of.Given as goal

abbrev pub invariant-loop-context : goal.invariant-loop-context
invariant-loop-context l = l.text.items ≡ flat_map (line_of l.plant) (range_with_len 0 l.context)
