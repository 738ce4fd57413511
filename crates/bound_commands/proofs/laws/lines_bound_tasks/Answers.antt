use Rattle.bound_commands.proofs.AllBounds.{lines_bound}
use Rattle.bound_commands.proofs.laws.lines_bound_tasks.Goals as goal

pub returns : goal.returns
returns c = lines_bound
