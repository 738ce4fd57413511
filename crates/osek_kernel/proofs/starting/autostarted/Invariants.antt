use Rattle.std.proofs.Common.{◌≡◌, take}
use Rattle.osek_kernel.specs.Kernel.{states_at_start}
use Rattle.osek_kernel.proofs.starting.autostarted.Given as goal

abbrev pub invariant-loop-task : goal.invariant-loop-task
invariant-loop-task l = l.states ≡ states_at_start l.mode (take l.task-index l.tasks)
