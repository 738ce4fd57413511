use Rattle.std.proofs.Common.{◌≡◌, map, take}
use Rattle.abstract_sched.specs.States.{block_at}
use Rattle.scheduler_moves.proofs.parts.task_blocks.Given as goal

abbrev pub invariant-loop-at : goal.invariant-loop-at
invariant-loop-at l = l.blocks.items ≡ map block_at (take l.at-index l.tasks)
