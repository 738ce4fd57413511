use Rattle.std.proofs.Common.{length}
use Rattle.bound_commands.proofs.TaskLines.{Continues}
use Rattle.demo_command.specs.Demo.{AnswersTaskAt}
use Rattle.demo_command.specs.Texts.{states_line}
use Rattle.demo_command.proofs.answering.answer.Given as goal

abbrev pub invariant-loop-task : goal.invariant-loop-task
invariant-loop-task l =
    Continues (AnswersTaskAt l.plant l.states l.responses) (states_line (length l.states)) l.count l.task l.text.items
