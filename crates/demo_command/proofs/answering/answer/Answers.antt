use Rattle.std.proofs.Common.{◌≡◌, ◌<◌, length, sym, subst, arith}
use Rattle.command_steps.specs.Steps.{Says}
use Rattle.inputs.proofs.Halts.{err_is}
use Rattle.bound_commands.proofs.TaskLines.{goes_on, stops, ends}
use Rattle.demo_command.specs.Demo.{AnswersTaskAt, AnswersLines}
use Rattle.demo_command.specs.Texts.{states_line}
use Rattle.demo_command.proofs.answering.answer.Goals as goal

pub returns-in_err-push_line : goal.returns-in_err-push_line
returns-in_err-push_line c =
    let plant = c.args.plant.now in
    let states = c.args.states.now in
    let responses = c.args.responses.now in
    let halt = c.in_err-push_line.field-0.0 in
    let below : c.loop-task.task < c.args.count = omega (arith, c.loop-task-test.true) in
    let is = err_is c.from_residual.result halt c.from_residual.ensures.0 c.from_residual.ensures.1 in
    subst (Says (AnswersLines plant states responses c.args.count)) (sym is)
    (stops (AnswersTaskAt plant states responses) (states_line (length states)) c.args.count c.loop-task.task c.loop-task.text.items
    c.push_line.new.text.items halt c.in_err-push_line.ensures below c.loop-task.invariant)

pub loop-task-preserved : goal.loop-task-preserved
loop-task-preserved c =
    let states = c.args.states.now in
    goes_on (AnswersTaskAt c.args.plant.now states c.args.responses.now) (states_line (length states)) c.args.count c.loop-task.task
    c.loop-task.text.items c.push_line.new.text.items c.in_ok-push_line.ensures c.loop-task.invariant

pub returns : goal.returns
returns c =
    let states = c.args.states.now in
    let last : c.loop-task.task ≡ c.args.count = omega (arith, c.loop-task-test.false, c.loop-task.auto) in
    ends (AnswersTaskAt c.args.plant.now states c.args.responses.now) (states_line (length states)) c.args.count c.loop-task.task c.loop-task.text.items
    c.in_ok-ended.field-0 last c.in_ok-ended.ensures c.loop-task.invariant
