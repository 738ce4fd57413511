use Rattle.whole_simplex.specs.Outcome.{outcome_of}
use Rattle.bound_solver.proofs.LiftedAnswers.{says_lifted}
use Rattle.bound_solver.proofs.lifting.solved_squeezed.Goals as goal

pub returns-in-Ok-clause-outcome : goal.returns-in-Ok-clause-outcome
returns-in-Ok-clause-outcome c =
    let d = c.args.squeezed.now.rows in
    says_lifted c.args.rows.now c.args.links.now d c.args.pivots (outcome_of d c.args.pivots)
    c.in-Ok.optimum c.lifted.result c.in-Ok.ensures.outcome (c.lifted.ensures.outcome d c.args.pivots)
