use Rattle.std.proofs.Common.{ℕ, ◌≡◌, Some, subst}
use Rattle.row_build.specs.Rows.{rows_of}
use Rattle.bound_solver.specs.Bounds.{solved_rows, bound_outcome}
use Rattle.command_steps.specs.Steps.{Says}
use Rattle.bound_commands.specs.All.{task_name}
use Rattle.bound_commands.specs.Found.{solved_as}
use Rattle.bound_commands.specs.Solving.{Saying, telling}
use Rattle.bound_commands.proofs.Solved.{outcome_said}
use Rattle.demo_command.specs.Texts.{task_line, line_of}
use Rattle.demo_command.proofs.task_lines.line_of.Goals as goal

pub returns : goal.returns
returns c =
    let plant = c.args.plant.now in
    let states = c.args.states.now in
    let responses = c.args.responses.now in
    let task = c.args.task in
    let found = c.bound_of-found.result in
    let say : Saying = telling (line_of plant.system responses task) in
    let said : Says (λ given. solved_as say found ≡ Some given) c.line_found.result =
    subst
    (λ (seen : ℕ). Says (λ given. solved_as (telling (λ bound. task_line (task_name plant.system task) bound seen)) found ≡ Some given) c.line_found.result)
    c.seen_of-seen.ensures c.line_found.ensures in
    outcome_said say (rows_of plant states task) (solved_rows plant states task) 100000 (bound_outcome plant states task 100000) found c.line_found.result
    c.bound_of-found.ensures.outcome c.bound_of-found.ensures.optimum c.bound_of-found.ensures.ray said
