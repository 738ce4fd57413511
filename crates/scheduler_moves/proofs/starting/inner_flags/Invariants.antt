use Rattle.std.proofs.Common.{◌≡◌, map, take, is_some}
use Rattle.scheduler_moves.proofs.starting.inner_flags.Given as goal

abbrev pub invariant-loop-task : goal.invariant-loop-task
invariant-loop-task l = l.flags ≡ map (λ task. is_some task.inner) (take l.task-index l.tasks)
