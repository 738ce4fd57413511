-- Recordings of declared runs are said to fit.
use Rattle.std.specs.Prelude.{◌≡◌, ◌⊎◌, ℕ, ◌+◌, ◌<◌, List, length, Result, Ok, Err}
use Rattle.json_fields.specs.Files.{IsGiven}
use Rattle.osek_machine.specs.Declarations.{IsDeclared}
use Rattle.osek_machine.specs.Events.{Event}
use Rattle.osek_machine.specs.Runs.{IsRun}
use Rattle.osek_machine.specs.State.{MachineState}
use Rattle.wcet_atomic_blocks.specs.Plants.{PlantData, IsPlant}
use Rattle.scheduler_moves.specs.Moves.{rules_of}
use Rattle.certificate.specs.declared.cert.Cert.{Cert}
use Rattle.certificate.specs.Lawful.{IsLawful}
use Rattle.bound_checker.specs.Good.{IsGood}
use Rattle.trace_check.specs.declared.fault.TraceKind.TheVariants as trace_kinds
use Rattle.trace_check.specs.Text.{trace_in}
use Rattle.trace_record.specs.Recording.{recording_of}
use Rattle.command_steps.specs.declared.halt.Halt.{Halt}
use Rattle.command_steps.specs.declared.halt.Halt.TheVariants.{Refused, Failed, Memory}
use Rattle.command_steps.specs.Refusals.{long_refusal}
use Rattle.command_steps.specs.Steps.{Calls}
use Rattle.trace_commands.specs.Judge.{TraceJudged, trace_limit}
use Rattle.trace_commands.specs.Texts.{fits_text}

-- A good certificate for a task of a plant.
pub record IsGoodFor (plant : PlantData) (task : ℕ) (cert : Cert) : Type 0 where
  pub belongs : IsPlant plant
  pub exists : task < length plant.system.tasks
  pub lawful : IsLawful (rules_of plant) task cert
  pub good : IsGood plant task cert

-- The bytes are a text of the recording of a run that keeps what is declared.
pub record RecordsDeclared (plant : PlantData) (bytes : List ℕ) : Type 0 where
  pub mode : ℕ
  pub events : List Event
  pub state : MachineState
  pub run : IsRun plant.image plant.system mode events state
  pub declared : IsDeclared plant.image plant.system plant.timing events
  pub is_text : IsGiven trace_kinds.Json (trace_in plant.system) bytes (Ok (recording_of plant.system mode events))

-- A recording is said to fit, unless there is no memory.
abbrev pub SaysFits : Result (List ℕ) Halt → Type 0
SaysFits (Ok text) = text ≡ fits_text
SaysFits (Err Memory) = Unit {0}
SaysFits (Err halt) = ⊥

-- What is said where a call of `read` gave no bytes of the file.
abbrev pub SaysUnread : List ℕ → Result (List ℕ) Halt → Type 0
SaysUnread name (Ok text) = ⊥
SaysUnread name (Err (Refused refusal)) = refusal ≡ long_refusal name (trace_limit + 1)
SaysUnread name (Err (Failed failed)) = failed ≡ name
SaysUnread name (Err Memory) = Unit {0}

-- The last steps of `trace judge`, behind a good certificate: where the bytes that a call of `read` gave are a text of the recording of a
-- declared run, it is said to fit. So an event with a fault is told of no such recording.
abbrev pub RecordingsAreSaidToFit : {F : Type 0} → Calls F → Type 0
RecordingsAreSaidToFit {F} calls = (plant : PlantData) (task : ℕ) (cert : Cert) (name : List ℕ) (before : F) (given : Result (List ℕ) Halt) (after : F)
    → IsGoodFor plant task cert → TraceJudged calls name plant cert before given after
    → ((bytes : List ℕ) × (then : F) × calls before name trace_limit (Ok bytes) then × (RecordsDeclared plant bytes → SaysFits given))
    ⊎ SaysUnread name given
