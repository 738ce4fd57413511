-- What recording a schedule answers: the recording of its run, or the first step that breaks what is declared or that
-- misuses a service, or that there is too much to record.
use Rattle.std.specs.Prelude.{◌≡◌, ℕ, ◌<◌, ◌≤◌, List, length, Result, Ok, Err}
use Rattle.listed.specs.declared.fault.Fault.{Fault}
use Rattle.listed.specs.declared.fault.Fault.TheVariants.{Kind, Memory}
use Rattle.osek_machine.specs.State.{MachineState}
use Rattle.osek_machine.specs.Events.{Event}
use Rattle.osek_machine.specs.Declarations.{IsDeclared}
use Rattle.graph_runs.specs.Walking.{MisusesNothing}
use Rattle.wcet_atomic_blocks.specs.Plants.{PlantData}
use Rattle.replay.specs.declared.schedule.Schedule.{Schedule}
use Rattle.replay.specs.Play.{PlaysUpTo}
use Rattle.replay.specs.Playing.{IsPlayed, HasStopped}
use Rattle.trace_check.specs.declared.trace.Trace.{Trace}
use Rattle.trace_record.specs.declared.fault.RecordKind.{RecordKind}
use Rattle.trace_record.specs.declared.fault.RecordKind.TheVariants.{Play, Events}
use Rattle.trace_record.specs.Recording.{recorded_in, recording_of}

-- a recording has at most so many events
abbrev pub most_events : ℕ
most_events = 65536

-- These are the steps of the run that the schedule plays, from its start to its end. It is declared.
pub record PlaysTo (plant : PlantData) (schedule : Schedule) (events : List Event) : Type 0 where
  pub state : MachineState
  pub played : IsPlayed plant.image plant.system plant.timing schedule events state
  pub stopped : HasStopped plant.system schedule events state
  pub declared : IsDeclared plant.image plant.system plant.timing events
  pub clean : MisusesNothing events

-- the recording of the run that the schedule plays
pub record Records (plant : PlantData) (schedule : Schedule) (trace : Trace) : Type 0 where
  pub events : List Event
  pub plays : PlaysTo plant schedule events
  pub few : length (recorded_in plant.system events) ≤ most_events
  pub told : trace ≡ recording_of plant.system schedule.mode events

-- The recording of that run has so many events, which are too many.
pub record RecordsTooMany (plant : PlantData) (schedule : Schedule) (count : ℕ) : Type 0 where
  pub events : List Event
  pub plays : PlaysTo plant schedule events
  pub counted : count ≡ length (recorded_in plant.system events)
  pub many : most_events < count

abbrev pub RecordGives : PlantData → Schedule → Result Trace (Fault RecordKind) → Type 0
RecordGives plant schedule (Ok trace) = Records plant schedule trace
RecordGives plant schedule (Err (Kind (Play fault))) = PlaysUpTo plant.image plant.system plant.timing schedule fault
RecordGives plant schedule (Err (Kind (Events count))) = RecordsTooMany plant schedule count
RecordGives plant schedule (Err Memory) = Unit {0}
