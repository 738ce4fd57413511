use Rattle.std.proofs.Common.{◌≡◌, take}
use Rattle.wcet_atomic_blocks.specs.Blocks.{beginnings}
use Rattle.wcet_atomic_blocks.proofs.beginnings.beginnings.Given as goal

abbrev pub invariant-loop-context : goal.invariant-loop-context
invariant-loop-context l = l.begins.items ≡ beginnings l.flow (take l.context l.entries)
