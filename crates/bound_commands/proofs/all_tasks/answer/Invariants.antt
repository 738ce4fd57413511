use Rattle.std.proofs.Common.{[], length}
use Rattle.bound_commands.specs.All.{AnswersTaskAt}
use Rattle.bound_commands.proofs.TaskLines.{Continues}
use Rattle.bound_commands.proofs.all_tasks.answer.Given as goal

abbrev pub invariant-loop-task : goal.invariant-loop-task
invariant-loop-task l = Continues (AnswersTaskAt l.plant l.states) [] (length l.plant.system.tasks) l.task l.text.items
