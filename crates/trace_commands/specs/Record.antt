-- `trace record OIL ELF TIMING SCHEDULE`: the recording of the run that the schedule plays, or its first step that breaks what is
-- declared or that misuses a service, or that there is too much to record.
use Rattle.std.specs.Prelude.{◌≡◌, ℕ, List, Result, Ok, Err}
use Rattle.listed.specs.declared.fault.Fault.TheVariants.{Kind}
use Rattle.json_fields.specs.Files.{IsGiven}
use Rattle.oil_model.specs.declared.system.System.{System}
use Rattle.wcet_atomic_blocks.specs.Plants.{PlantData}
use Rattle.replay.specs.declared.schedule.Schedule.{Schedule}
use Rattle.trace_check.specs.declared.trace.Trace.{Trace}
use Rattle.trace_check.specs.declared.fault.TraceKind.TheVariants as trace_kinds
use Rattle.trace_check.specs.Text.{trace_in, trace_text}
use Rattle.trace_record.specs.declared.fault.RecordKind.{RecordKind}
use Rattle.trace_record.specs.declared.fault.RecordKind.TheVariants.{Play, Events}
use Rattle.trace_record.specs.Recorded.{RecordGives}
use Rattle.command_steps.specs.declared.halt.Refusal.{Refusal}
use Rattle.command_steps.specs.Steps.{Calls, Step, Judged, Then}
use Rattle.inputs.specs.Plants.{PlantOf}
use Rattle.inputs.specs.Schedules.{ScheduleFile, play_refusal}
use Rattle.trace_commands.specs.Texts.{events_refusal}

-- The text of the recording, which is read as the recording again.
pub record SaysRecording (plant : PlantData) (schedule : Schedule) (text : List ℕ) : Type 0 where
  pub trace : Trace
  pub records : RecordGives plant schedule (Ok trace)
  pub told : text ≡ trace_text plant.system trace
  pub again : IsGiven trace_kinds.Json (trace_in plant.system) text (Ok trace)

-- what is said where there is no recording: of the first broken step of the run, or of how many events there are
abbrev pub record_refusal : System → RecordKind → Refusal
record_refusal system (Play fault) = play_refusal system fault
record_refusal system (Events count) = events_refusal count

abbrev pub HasRecorded : PlantData → Schedule → Result (List ℕ) Refusal → Type 0
HasRecorded plant schedule (Ok text) = SaysRecording plant schedule text
HasRecorded plant schedule (Err refusal) =
    (kind : RecordKind) × RecordGives plant schedule (Err (Kind kind)) × (refusal ≡ record_refusal plant.system kind)

abbrev pub RecordOn : {F : Type 0} → Calls F → List ℕ → PlantData → Step F (List ℕ)
RecordOn calls name plant = Then (ScheduleFile calls name plant) (λ schedule. Judged (HasRecorded plant schedule))

abbrev pub TraceRecord : {F : Type 0} → Calls F → List ℕ → List ℕ → List ℕ → List ℕ → Step F (List ℕ)
TraceRecord calls oil elf timing schedule = Then (PlantOf calls oil elf timing) (RecordOn calls schedule)
