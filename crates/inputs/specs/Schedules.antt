-- Schedules as inputs, over a plant, and what is said of the first broken step of the run that one plays.
use Rattle.std.specs.Prelude.{◌≡◌, ℕ, List, codes, unwrap_or, option_map, slice_get, Option, Result, Ok, Err}
use Rattle.json_fields.specs.Files.{IsGiven}
use Rattle.oil_model.specs.declared.system.System.{System}
use Rattle.osek_kernel.specs.declared.context.Context.{Context}
use Rattle.osek_kernel.specs.declared.source.Source.{Source}
use Rattle.osek_kernel.specs.declared.source.Source.TheVariants as sources
use Rattle.osek_kernel.specs.Contexts as contexts_of
use Rattle.osek_kernel.specs.Sources.{source_at}
use Rattle.wcet_atomic_blocks.specs.Plants.{PlantData}
use Rattle.replay.specs.declared.fault.ScheduleKind.{ScheduleKind}
use Rattle.replay.specs.declared.fault.ScheduleKind.TheVariants as schedule_kinds
use Rattle.replay.specs.declared.response.PlayKind.{PlayKind}
use Rattle.replay.specs.declared.response.PlayKind.TheVariants.{TooClose, Unpaired, CodeWritten, LoopPast, Misuse}
use Rattle.replay.specs.declared.schedule.Schedule.{Schedule}
use Rattle.replay.specs.Schedule.{schedule_in}
use Rattle.command_steps.specs.declared.halt.Refusal.{Refusal}
use Rattle.command_steps.specs.Steps.{Calls, Step, File}
use Rattle.reports.specs.Played.{schedule_refusal, misuse_refusal, declaration_refusal}

-- ---- the schedule, over the plant's system

-- in bytes
abbrev pub schedule_limit : ℕ
schedule_limit = 1048576

abbrev pub HasSchedule : PlantData → List ℕ → Result Schedule Refusal → Type 0
HasSchedule plant bytes (Ok schedule) = IsGiven schedule_kinds.Json (schedule_in plant.system) bytes (Ok schedule)
HasSchedule plant bytes (Err refusal) =
    (kind : ScheduleKind) × IsGiven schedule_kinds.Json (schedule_in plant.system) bytes (Err kind) × (refusal ≡ schedule_refusal kind)

abbrev pub ScheduleFile : {F : Type 0} → Calls F → List ℕ → PlantData → Step F Schedule
ScheduleFile calls name plant = File calls name schedule_limit (HasSchedule plant)

-- ---- names

abbrev pub context_name : System → Context → List ℕ
context_name system context = unwrap_or (contexts_of.name_of system context) (codes "")

abbrev pub name_of_source : System → Source → Option (List ℕ)
name_of_source system (sources.Alarm a) = option_map (λ alarm. alarm.name) (slice_get system.alarms a)
name_of_source system (sources.Isr i) = option_map (λ isr. isr.name) (slice_get system.isrs i)

abbrev pub source_name : System → ℕ → List ℕ
source_name system source = unwrap_or (name_of_source system (source_at system source)) (codes "")

-- ---- the first broken step

abbrev pub play_refusal : System → PlayKind → Refusal
play_refusal system (TooClose source moment) = declaration_refusal (TooClose source moment) (source_name system source) moment
play_refusal system (Unpaired context address moment) = declaration_refusal (Unpaired context address moment) (context_name system context) moment
play_refusal system (CodeWritten context address moment) =
    declaration_refusal (CodeWritten context address moment) (context_name system context) moment
play_refusal system (LoopPast context address moment) = declaration_refusal (LoopPast context address moment) (context_name system context) moment
play_refusal system (Misuse context address code moment) = misuse_refusal (context_name system context) address code
