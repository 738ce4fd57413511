-- What is said of a run is said of the seed's system.
use Rattle.std.proofs.Common.{ℕ, List, Result, Ok, Err}
use Rattle.wcet_atomic_blocks.specs.Plants.{PlantData}
use Rattle.abstract_sched.specs.declared.states.AbsState.{AbsState}
use Rattle.replay.specs.declared.response.Response.{Response}
use Rattle.replay.specs.Play.{PlaysWhole}
use Rattle.command_steps.specs.declared.halt.Halt.{Halt}
use Rattle.command_steps.specs.declared.halt.Halt.TheVariants.{Refused, Failed, Memory}
use Rattle.command_steps.specs.declared.halt.Refusal.{Refusal}
use Rattle.command_steps.specs.Steps.{Says}
use Rattle.demo_gen.specs.Demo.{the_states}
use Rattle.demo_runs.specs.Laws.{IsDemoPlant}
use Rattle.demo_runs.specs.Schedule.{the_schedule}
use Rattle.demo_command.specs.Demo.{AnswersLines, AnswersDemo}
use Rattle.demo_command.specs.Working.Ready.{AnswersRun}

-- what follows from what is said is said
said_as : (P Q : Result (List ℕ) Refusal → Type 0) → ((given : Result (List ℕ) Refusal) → P given → Q given) → (r : Result (List ℕ) Halt)
    → Says P r → Says Q r
said_as P Q follows (Ok text) says = follows (Ok text) says
said_as P Q follows (Err (Refused refusal)) says = follows (Err refusal) says
said_as P Q follows (Err (Failed name)) says = says
said_as P Q follows (Err Memory) says = tt

pub run_said : (plant : PlantData) (states : List AbsState) (responses : List Response) (count : ℕ) (r : Result (List ℕ) Halt)
    → PlaysWhole plant.image plant.system plant.timing (the_schedule count) responses → Says (AnswersLines plant states responses count) r
    → Says (AnswersRun plant states count) r
run_said plant states responses count r plays says =
    said_as (AnswersLines plant states responses count) (AnswersRun plant states count) (λ given lines. (responses, plays, lines)) r says

pub demo_said : (seed count : ℕ) (plant : PlantData) (r : Result (List ℕ) Halt) → IsDemoPlant seed count plant
    → Says (AnswersRun plant (the_states count) count) r → Says (AnswersDemo seed count) r
demo_said seed count plant r is says =
    said_as (AnswersRun plant (the_states count) count) (AnswersDemo seed count)
    (λ given run. record { plant = plant; plant_is = is; responses = run.0; plays = run.1; answers = run.2 }) r says
