use Rattle.std.proofs.Common.{List, subst}
use Rattle.replay.specs.declared.response.Response.{Response}
use Rattle.command_steps.specs.Steps.{Says}
use Rattle.demo_command.specs.Demo.{AnswersLines}
use Rattle.demo_command.proofs.GivenAnswers.{run_said}
use Rattle.demo_command.proofs.answering.played.Goals as goal

pub returns : goal.returns
returns c =
    let plant = c.args.plant.now in
    let states = c.args.states.now in
    let responses = c.in_ok-responses.responses in
    run_said plant states responses c.args.count c.answer.result c.in_ok-responses.ensures
    (subst (λ (rs : List Response). Says (AnswersLines plant states rs c.args.count) c.answer.result) c.as_slice.ensures c.answer.ensures)
