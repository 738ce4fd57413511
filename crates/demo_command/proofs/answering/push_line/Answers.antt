use Rattle.bound_commands.proofs.TaskLines.{adds_line}
use Rattle.demo_command.specs.Demo.{AnswersTaskAt}
use Rattle.demo_command.proofs.answering.push_line.Goals as goal

pub returns : goal.returns
returns c =
    adds_line (AnswersTaskAt c.args.plant.now c.args.states.now c.args.responses.now c.args.task) c.args.text.now.items c.push_answered.new.text.items
    c.line_of-answered.result c.push_answered.result c.line_of-answered.ensures c.push_answered.ensures
