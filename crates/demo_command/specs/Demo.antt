-- `demo SEED TASKS`: the generated system is read from its texts, its run is played, each task is bounded over its list of states, and
-- a line is written for each task, up to the first task that has no bound, and then the number of states.
use Rattle.std.specs.Prelude.{ℕ, List, [], length, Result}
use Rattle.wcet_atomic_blocks.specs.Plants.{PlantData}
use Rattle.abstract_sched.specs.declared.states.AbsState.{AbsState}
use Rattle.replay.specs.declared.response.Response.{Response}
use Rattle.replay.specs.Play.{PlaysWhole}
use Rattle.command_steps.specs.declared.halt.Refusal.{Refusal}
use Rattle.command_steps.specs.Steps.{Calls, Step, Judged}
use Rattle.bound_commands.specs.All.{AnswersFrom}
use Rattle.bound_commands.specs.Solving.{AnswersTask, telling, usual_pivots}
use Rattle.demo_gen.specs.Demo.{the_states}
use Rattle.demo_runs.specs.Laws.{IsDemoPlant}
use Rattle.demo_runs.specs.Schedule.{the_schedule}
use Rattle.demo_command.specs.Texts.{line_of, states_line}

-- what is said of a task: of an optimum its bound, beside what was seen
abbrev pub AnswersTaskAt : PlantData → List AbsState → List Response → ℕ → Result (List ℕ) Refusal → Type 0
AnswersTaskAt plant states responses task given =
    AnswersTask (telling (line_of plant.system responses task)) usual_pivots (record { plant = plant; task = task }) states given

-- The lines of so many tasks, and then that of the states; or up to the refusal of the first task that has no bound.
abbrev pub AnswersLines : PlantData → List AbsState → List Response → ℕ → Result (List ℕ) Refusal → Type 0
AnswersLines plant states responses count given =
    AnswersFrom (AnswersTaskAt plant states responses) (states_line (length states)) count 0 [] given

-- The system of the seed with so many tasks has the plant, the run by its schedule the responses, and they are said of it.
pub record AnswersDemo (seed count : ℕ) (given : Result (List ℕ) Refusal) : Type 0 where
  pub plant : PlantData
  pub plant_is : IsDemoPlant seed count plant
  pub responses : List Response
  pub plays : PlaysWhole plant.image plant.system plant.timing (the_schedule count) responses
  pub answers : AnswersLines plant (the_states count) responses count given

abbrev pub Demo : {F : Type 0} → Calls F → ℕ → ℕ → Step F (List ℕ)
Demo calls seed count = Judged (AnswersDemo seed count)
