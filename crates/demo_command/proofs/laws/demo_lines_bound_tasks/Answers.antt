use Rattle.demo_command.proofs.TaskBounds.{lines_bound}
use Rattle.demo_command.proofs.laws.demo_lines_bound_tasks.Goals as goal

pub returns : goal.returns
returns c = lines_bound
