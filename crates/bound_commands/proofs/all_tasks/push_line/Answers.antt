use Rattle.bound_commands.specs.All.{AnswersTaskAt}
use Rattle.bound_commands.proofs.TaskLines.{adds_line}
use Rattle.bound_commands.proofs.all_tasks.push_line.Goals as goal

pub returns : goal.returns
returns c =
    adds_line (AnswersTaskAt c.args.plant.now c.args.states.now c.args.task) c.args.text.now.items c.push_answered.new.text.items c.line_of-answered.result
    c.push_answered.result c.line_of-answered.ensures c.push_answered.ensures
