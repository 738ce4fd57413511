-- What the answers of `trace record` and `trace judge` mean.
use Rattle.std.specs.Prelude.{◌≡◌, ℕ, List, Some, Ok}
use Rattle.json_fields.specs.Files.{IsGiven}
use Rattle.oil_model.specs.Answers.{task_named}
use Rattle.wcet_atomic_blocks.specs.Plants.{PlantData, IsPlantOf}
use Rattle.scheduler_moves.specs.Moves.{rules_of}
use Rattle.certificate.specs.declared.cert.Cert.{Cert}
use Rattle.certificate.specs.declared.fault.CertKind.TheVariants as cert_kinds
use Rattle.certificate.specs.Certificate.{cert_in}
use Rattle.replay.specs.declared.fault.ScheduleKind.TheVariants as schedule_kinds
use Rattle.replay.specs.declared.schedule.Schedule.{Schedule}
use Rattle.replay.specs.Schedule.{schedule_in}
use Rattle.trace_check.specs.declared.fault.TraceKind.TheVariants as trace_kinds
use Rattle.trace_check.specs.declared.trace.Trace.{Trace}
use Rattle.trace_check.specs.declared.verdict.TraceVerdict.TheVariants.{Fits}
use Rattle.trace_check.specs.Text.{trace_in}
use Rattle.trace_check.specs.Verdict.{verdict_of}
use Rattle.inputs.specs.Meaning.{AreDeclared, LastsAtMost}
use Rattle.trace_commands.specs.Record.{SaysRecording}
use Rattle.trace_commands.specs.Texts.{fits_text}

-- The files are a system, its image and its timing, and a schedule, and the text is that of the recording of the run that the schedule plays,
-- and is read as that recording again. The run keeps what is declared, so every bound of a task holds of it.
pub record RecordsRun (schedule text oil elf timing : List ℕ) : Type 0 where
  pub declared : AreDeclared oil elf timing
  pub plant : PlantData
  pub plant_is : IsPlantOf declared.image declared.system declared.times plant
  pub listed : Schedule
  pub listed_is : IsGiven schedule_kinds.Json (schedule_in plant.system) schedule (Ok listed)
  pub says : SaysRecording plant listed text

-- The files are a system with a task of the name, its image and its timing, a certificate for the task, whose bound no activation of the
-- task outlasts in any run that keeps what is declared, and a recording, in which no event has a fault by that bound.
pub record JudgesFit (name certificate trace text oil elf timing : List ℕ) : Type 0 where
  pub declared : AreDeclared oil elf timing
  pub task : ℕ
  pub named : task_named declared.system name ≡ Some task
  pub plant : PlantData
  pub plant_is : IsPlantOf declared.image declared.system declared.times plant
  pub cert : Cert
  pub cert_is : IsGiven cert_kinds.Json (cert_in (rules_of plant) task name) certificate (Ok cert)
  pub lasts : LastsAtMost declared.image declared.system declared.times task cert.bound
  pub recording : Trace
  pub recording_is : IsGiven trace_kinds.Json (trace_in plant.system) trace (Ok recording)
  pub fits : verdict_of plant task cert.bound recording ≡ Fits
  pub told : text ≡ fits_text
