-- A recording that grows while a run is played.
use Rattle.std.specs.Prelude.{◌≡◌, ℕ, ◌+◌, ◌^◌, ◌<◌, ◌≤◌, nat_lt, List, ◌∷◌, ◌++◌, length, Bool, true, false, Option, Some, None, option_to_list, Result, Ok, Err, if◌then◌else◌}
use Rattle.listed.specs.declared.fault.Fault.{Fault}
use Rattle.listed.specs.declared.fault.Fault.TheVariants.{Kind, Memory}
use Rattle.listed.specs.declared.memory.Memory.{Memory as WantOfMemory}
use Rattle.oil_model.specs.declared.system.System.{System}
use Rattle.osek_kernel.specs.Contexts.{IsContext, place_of}
use Rattle.osek_machine.specs.Events.{Event, duration}
use Rattle.wcet_atomic_blocks.specs.Plants.{PlantData}
use Rattle.replay.specs.declared.player.Player.{Player}
use Rattle.replay.specs.declared.schedule.Schedule.{Schedule}
use Rattle.replay.specs.declared.turn.Turn.{Turn}
use Rattle.replay.specs.declared.turn.Turn.TheVariants as turns
use Rattle.replay.specs.Play.{PlaysUpTo}
use Rattle.replay.specs.Turning.{IsDone, Stands}
use Rattle.trace_check.specs.declared.trace.Trace.{Trace}
use Rattle.trace_check.specs.declared.trace.Event.{Event as TraceEvent}
use Rattle.trace_check.specs.declared.trace.Event.TheVariants as traces
use Rattle.trace_record.specs.declared.fault.RecordKind.{RecordKind}
use Rattle.trace_record.specs.declared.fault.RecordKind.TheVariants.{Play, Events}
use Rattle.trace_record.specs.declared.recorder.Recorder.{Recorder}
use Rattle.trace_record.specs.Recording.{recorded_in}
use Rattle.trace_record.specs.Recorded.{most_events}

-- ---- What a turn adds

-- what is recorded of the step that it tells
abbrev pub noted : System → Turn → Option TraceEvent
noted system (turns.Arrive source moment) = Some (traces.Arrive moment source)
noted system (turns.Take source start end) = Some (traces.Take start end source)
noted system (turns.Service context sites address start end) = Some (traces.Service start end (place_of system context) sites address)
noted system turn = None

-- the moment at which that step ends, after others that ended at this moment
abbrev pub ends_at : Turn → ℕ → ℕ
ends_at (turns.Take source start end) moment = end
ends_at (turns.Insn start end) moment = end
ends_at (turns.Service context sites address start end) moment = end
ends_at (turns.Idle end) moment = end
ends_at turn moment = moment

-- the context that calls a service exists
abbrev pub ServesContext : System → Turn → Type 0
ServesContext system (turns.Service context sites address start end) = IsContext system context
ServesContext system turn = Unit {0}

-- fewer events were counted than steps were made with this one
abbrev pub HasRoom : ℕ → ℕ → Turn → Type 0
HasRoom count made turns.Done = Unit {0}
HasRoom count made turn = count < made

-- what is kept of one more, where so many were counted before
abbrev pub kept_with : ℕ → List TraceEvent → Option TraceEvent → List TraceEvent
kept_with count events more = if nat_lt count most_events then events ++ option_to_list more else events

pub record Adds (more : Option TraceEvent) (end : ℕ) (before after : Recorder) : Type 0 where
  pub events : after.events ≡ kept_with before.count before.events more
  pub count : after.count ≡ before.count + length (option_to_list more)
  pub end_is : after.end ≡ end

abbrev pub AddGives : Option TraceEvent → ℕ → Recorder → Recorder → Result Bool WantOfMemory → Type 0
AddGives more end before after (Ok went) = (went ≡ true) × Adds more end before after
AddGives more end before after (Err memory) = Unit {0}

abbrev pub NoteGives : System → Turn → Recorder → Recorder → Result Bool WantOfMemory → Type 0
NoteGives system turns.Done before after (Ok went) = (went ≡ false) × (after ≡ before)
NoteGives system turn before after result = AddGives (noted system turn) (ends_at turn before.end) before after result

-- the recording, where it has no more events than one may have
abbrev pub finished : ℕ → Recorder → Result Trace (Fault RecordKind)
finished mode recorder =
    if nat_lt most_events recorder.count then Err (Kind (Events recorder.count))
    else Ok (record { mode = mode; end = recorder.end; events = recorder.events })

-- ---- Rounds

-- These steps were recorded: the first events up to the most, and how many there are.
pub record HasRecorded (system : System) (events : List Event) (recorder : Recorder) : Type 0 where
  pub count : recorder.count ≡ length (recorded_in system events)
  pub end_is : recorder.end ≡ duration events
  pub kept : recorder.count ≤ most_events → recorder.events ≡ recorded_in system events

-- The player stands after these steps and has met no fault, and the steps were recorded.
pub record IsAfter (plant : PlantData) (schedule : Schedule) (events : List Event) (player : Player) (recorder : Recorder) : Type 0 where
  pub stands : Stands plant schedule events player
  pub recorded : HasRecorded plant.system events recorder

abbrev pub IsRecording : PlantData → Schedule → Player → Recorder → Type 0
IsRecording plant schedule player recorder = (events : List Event) × IsAfter plant schedule events player recorder

-- One more step was made and recorded.
pub record GoesOn (plant : PlantData) (schedule : Schedule) (events : List Event) (player : Player) (recorder : Recorder) : Type 0 where
  pub event : Event
  pub after : IsAfter plant schedule (event ∷ events) player recorder
  pub few : player.made < 2 ^ 64

-- The run was played to its end.
pub record HasEnded (plant : PlantData) (schedule : Schedule) (events : List Event) (player : Player) (recorder : Recorder) : Type 0 where
  pub after : IsAfter plant schedule events player recorder
  pub done : IsDone plant schedule events

abbrev pub TurnGives : PlantData → Schedule → List Event → Player → Recorder → Result Bool (Fault RecordKind) → Type 0
TurnGives plant schedule events player recorder (Ok true) = GoesOn plant schedule events player recorder
TurnGives plant schedule events player recorder (Ok false) = HasEnded plant schedule events player recorder
TurnGives plant schedule events player recorder (Err (Kind (Play fault))) = PlaysUpTo plant.image plant.system plant.timing schedule fault
TurnGives plant schedule events player recorder (Err (Kind (Events count))) = ⊥
TurnGives plant schedule events player recorder (Err Memory) = Unit {0}

abbrev pub RoundsGive : {U : Type 0} → PlantData → Schedule → Player → Recorder → Result U (Fault RecordKind) → Type 0
RoundsGive plant schedule player recorder (Ok unit) = (events : List Event) × HasEnded plant schedule events player recorder
RoundsGive plant schedule player recorder (Err (Kind (Play fault))) = PlaysUpTo plant.image plant.system plant.timing schedule fault
RoundsGive plant schedule player recorder (Err (Kind (Events count))) = ⊥
RoundsGive plant schedule player recorder (Err Memory) = Unit {0}
