use Rattle.row_build.specs.Rows.{rows_of}
use Rattle.bound_solver.specs.Bounds.{solved_rows, bound_outcome}
use Rattle.bound_commands.specs.Solving.{bound_saying}
use Rattle.bound_commands.proofs.Solved.{outcome_said}
use Rattle.bound_commands.proofs.solving.bound_line.Goals as goal

pub returns : goal.returns
returns c =
    let plant = c.args.plant.now in
    let states = c.args.states.now in
    let task = c.args.task in
    let pivots = c.args.pivots in
    outcome_said (bound_saying c.args.name.now) (rows_of plant states task) (solved_rows plant states task) pivots
    (bound_outcome plant states task pivots) c.bound_of.result c.bound_found.result c.bound_of.ensures.outcome c.bound_of.ensures.optimum
    c.bound_of.ensures.ray c.bound_found.ensures
