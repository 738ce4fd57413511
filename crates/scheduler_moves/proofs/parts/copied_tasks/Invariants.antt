use Rattle.std.proofs.Common.{◌≡◌, take}
use Rattle.scheduler_moves.proofs.parts.copied_tasks.Given as goal

abbrev pub invariant-loop-at : goal.invariant-loop-at
invariant-loop-at l = l.copy ≡ take l.at-index l.tasks
