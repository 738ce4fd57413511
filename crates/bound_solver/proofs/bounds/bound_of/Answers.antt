use Rattle.bound_solver.proofs.TaskBounds.{says_of_task}
use Rattle.bound_solver.proofs.bounds.bound_of.Goals as goal

pub returns-in-Ok-clause-outcome : goal.returns-in-Ok-clause-outcome
returns-in-Ok-clause-outcome c =
    says_of_task c.args.plant.now c.args.states.now c.args.task c.args.pivots c.in-Ok.linked.rows c.in-Ok.linked.links c.solved.result
    c.in-Ok.ensures.rows c.in-Ok.ensures.links c.solved.ensures.outcome
