use Rattle.std.proofs.Common.{◌≡◌, ◌∙◌, List, sym, subst}
use Rattle.abstract_sched.specs.declared.states.AbsState.{AbsState}
use Rattle.command_steps.specs.Steps.{Says}
use Rattle.demo_gen.specs.Demo.{the_states}
use Rattle.demo_runs.specs.Laws.{IsDemoPlant}
use Rattle.demo_command.specs.Working.Ready.{IsReady, AnswersRun}
use Rattle.demo_command.proofs.GivenAnswers.{demo_said}
use Rattle.demo_command.proofs.States.{plant_ready}
use Rattle.demo_command.proofs.answering.demonstrated.Goals as goal

pub played-requires-clause-drawn : goal.played-requires-clause-drawn
played-requires-clause-drawn c =
    (c.args.seed, record { some = c.requires.some; few = c.requires.few; plant_is = c.in_ok-generated.ensures.plant })

pub played-requires-clause-ready : goal.played-requires-clause-ready
played-requires-clause-ready c =
    let plant = c.in_ok-generated.generated.plant in
    let is : IsDemoPlant c.args.seed c.args.count plant =
    record { some = c.requires.some; few = c.requires.few; plant_is = c.in_ok-generated.ensures.plant } in
    let same : c.as_slice.result.now ≡ the_states c.args.count = c.as_slice.ensures ∙ c.in_ok-generated.ensures.states in
    subst (λ (states : List AbsState). IsReady plant states) (sym same) (plant_ready c.args.seed c.args.count plant is)

pub returns : goal.returns
returns c =
    let plant = c.in_ok-generated.generated.plant in
    let is : IsDemoPlant c.args.seed c.args.count plant =
    record { some = c.requires.some; few = c.requires.few; plant_is = c.in_ok-generated.ensures.plant } in
    let same : c.as_slice.result.now ≡ the_states c.args.count = c.as_slice.ensures ∙ c.in_ok-generated.ensures.states in
    demo_said c.args.seed c.args.count plant c.played.result is
    (subst (λ (states : List AbsState). Says (AnswersRun plant states c.args.count) c.played.result) same c.played.ensures)
