use Rattle.std.proofs.Common.{◌≡◌, ℕ, ◌<◌, List, [], length, Result, ◌∙◌, sym, ap, subst, append-nil, arith}
use Rattle.wcet_atomic_blocks.specs.Plants.{PlantData}
use Rattle.command_steps.specs.declared.halt.Halt.{Halt}
use Rattle.command_steps.specs.Steps.{Says}
use Rattle.bound_commands.specs.All.{AnswersTaskAt, AnswersAll}
use Rattle.inputs.proofs.Halts.{err_is}
use Rattle.bound_commands.proofs.TaskLines.{goes_on, stops, ends}
use Rattle.bound_commands.proofs.all_tasks.answer.Goals as goal

pub returns-in_err-push_line : goal.returns-in_err-push_line
returns-in_err-push_line c =
    let plant = c.args.plant.now in
    let states = c.args.states.now in
    let halt = c.in_err-push_line.field-0.0 in
    let same : length c.plant.inside.system.tasks ≡ length plant.system.tasks = ap (λ (p : PlantData). length p.system.tasks) c.plant.view_is in
    let below : c.loop-task.task < length plant.system.tasks = omega (arith, same) in
    let is = err_is c.from_residual.result halt c.from_residual.ensures.0 c.from_residual.ensures.1 in
    subst (λ (given : Result (List ℕ) Halt). Says (AnswersAll plant states) given) (sym is)
    (stops (AnswersTaskAt plant states) [] (length plant.system.tasks) c.loop-task.task c.loop-task.text.items c.push_line.new.text.items halt
    c.in_err-push_line.ensures below c.loop-task.invariant)

pub loop-task-preserved : goal.loop-task-preserved
loop-task-preserved c =
    goes_on (AnswersTaskAt c.args.plant.now c.args.states.now) [] (length c.args.plant.now.system.tasks) c.loop-task.task c.loop-task.text.items
    c.push_line.new.text.items c.in_ok-push_line.ensures c.loop-task.invariant

pub returns : goal.returns
returns c =
    let plant = c.args.plant.now in
    let same : length c.plant.inside.system.tasks ≡ length plant.system.tasks = ap (λ (p : PlantData). length p.system.tasks) c.plant.view_is in
    let last : c.loop-task.task ≡ length plant.system.tasks = omega (arith, same) in
    ends (AnswersTaskAt plant c.args.states.now) [] (length plant.system.tasks) c.loop-task.task c.loop-task.text.items c.from_vec.result last
    (c.from_vec.ensures ∙ sym (append-nil c.loop-task.text.items)) c.loop-task.invariant
