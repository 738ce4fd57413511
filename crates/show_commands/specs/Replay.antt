-- `replay OIL ELF TIMING SCHEDULE`: the responses of the run that the schedule plays, or its first step that breaks what is declared or
-- that misuses a service.
use Rattle.std.specs.Prelude.{◌≡◌, ℕ, List, Result, Ok, Err}
use Rattle.std.specs.List.{flat_map}
use Rattle.oil_model.specs.declared.system.System.{System}
use Rattle.osek_kernel.specs.declared.context.Context.TheVariants as contexts
use Rattle.replay.specs.declared.response.PlayKind.{PlayKind}
use Rattle.replay.specs.declared.response.Response.{Response}
use Rattle.replay.specs.declared.schedule.Schedule.{Schedule}
use Rattle.replay.specs.Play.{PlaysWhole, PlaysUpTo}
use Rattle.wcet_atomic_blocks.specs.Plants.{PlantData}
use Rattle.command_steps.specs.declared.halt.Refusal.{Refusal}
use Rattle.command_steps.specs.Steps.{Calls, Step, Judged, Then}
use Rattle.reports.specs.Played.{response_line}
use Rattle.inputs.specs.Plants.{PlantOf}
use Rattle.inputs.specs.Schedules.{ScheduleFile, context_name, play_refusal}

-- ---- what is said of the run

abbrev pub line_of : System → Response → List ℕ
line_of system r = response_line (context_name system (contexts.Task r.task)) r.start r.cycles r.ended

abbrev pub responses_text : System → List Response → List ℕ
responses_text system responses = flat_map (line_of system) responses

-- The responses of the whole run, and their text.
pub record SaysResponses (plant : PlantData) (schedule : Schedule) (text : List ℕ) : Type 0 where
  pub responses : List Response
  pub plays : PlaysWhole plant.image plant.system plant.timing schedule responses
  pub told : text ≡ responses_text plant.system responses

-- The first broken step of the run, and what is said of it.
pub record SaysBroken (plant : PlantData) (schedule : Schedule) (refusal : Refusal) : Type 0 where
  pub fault : PlayKind
  pub plays : PlaysUpTo plant.image plant.system plant.timing schedule fault
  pub told : refusal ≡ play_refusal plant.system fault

abbrev pub HasPlayed : PlantData → Schedule → Result (List ℕ) Refusal → Type 0
HasPlayed plant schedule (Ok text) = SaysResponses plant schedule text
HasPlayed plant schedule (Err refusal) = SaysBroken plant schedule refusal

abbrev pub ReplayOn : {F : Type 0} → Calls F → List ℕ → PlantData → Step F (List ℕ)
ReplayOn calls name plant = Then (ScheduleFile calls name plant) (λ schedule. Judged (HasPlayed plant schedule))

abbrev pub Replay : {F : Type 0} → Calls F → List ℕ → List ℕ → List ℕ → List ℕ → Step F (List ℕ)
Replay calls oil elf timing schedule = Then (PlantOf calls oil elf timing) (ReplayOn calls schedule)
