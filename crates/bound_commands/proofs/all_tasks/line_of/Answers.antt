use Rattle.std.proofs.Common.{◌≡◌, ℕ, List, ap, ◌∙◌, subst}
use Rattle.wcet_atomic_blocks.specs.Plants.{PlantData}
use Rattle.command_steps.specs.Steps.{Says}
use Rattle.bound_commands.specs.All.{task_name}
use Rattle.bound_commands.specs.Solving.{AnswersTask, bound_saying}
use Rattle.bound_commands.specs.Solving.{usual_pivots}
use Rattle.bound_commands.proofs.all_tasks.line_of.Goals as goal

pub returns : goal.returns
returns c =
    let plant = c.args.plant.now in
    let same : c.task_name-name.result.now ≡ task_name plant.system c.args.task =
    c.task_name-name.ensures ∙ ap (λ (p : PlantData). task_name p.system c.args.task) c.plant.view_is in
    subst
    (λ (name : List ℕ). Says (AnswersTask (bound_saying name) usual_pivots (record { plant = plant; task = c.args.task }) c.args.states.now)
    c.bound_line.result)
    same c.bound_line.ensures
