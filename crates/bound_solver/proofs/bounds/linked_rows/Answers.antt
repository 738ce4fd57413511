use Rattle.bound_solver.proofs.TaskBounds.{joined}
use Rattle.bound_solver.proofs.bounds.linked_rows.Goals as goal

pub returns-clause-join : goal.returns-clause-join
returns-clause-join c =
    joined c.links_join_columns.ensures c.args.plant.now c.args.states.now c.args.task
    c.in_ok-rows.rows c.in_ok-links.links c.belongs_together.ensures c.in_ok-rows.ensures c.in_ok-links.ensures
