-- A generated system whose tasks can be bounded and played.
use Rattle.std.specs.Prelude.{ℕ, List, Result}
use Rattle.wcet_atomic_blocks.specs.Plants.{PlantData}
use Rattle.abstract_sched.specs.declared.states.AbsState.{AbsState}
use Rattle.abstract_sched.specs.Fits.{AreLawful}
use Rattle.scheduler_moves.specs.Closed.{IsClosed}
use Rattle.scheduler_moves.specs.Moves.{rules_of}
use Rattle.replay.specs.declared.response.Response.{Response}
use Rattle.replay.specs.Play.{PlaysWhole}
use Rattle.command_steps.specs.declared.halt.Refusal.{Refusal}
use Rattle.demo_runs.specs.Schedule.{the_schedule}
use Rattle.demo_command.specs.Demo.{AnswersLines}

pub record IsReady (plant : PlantData) (states : List AbsState) : Type 0 where
  pub closed : IsClosed plant states
  pub lawful : AreLawful (rules_of plant) states

-- the run was played, and its responses are told
abbrev pub AnswersRun : PlantData → List AbsState → ℕ → Result (List ℕ) Refusal → Type 0
AnswersRun plant states count given =
    (responses : List Response) × PlaysWhole plant.image plant.system plant.timing (the_schedule count) responses
    × AnswersLines plant states responses count given
