-- The recording of a run fits where its sources arrive in time and no activation of the task lasts longer than the bound.
-- So a recording that doesn't fit shows that what is declared wasn't kept, or that the system isn't the declared one.
use Rattle.std.specs.Prelude.{◌≡◌, ℕ, ◌^◌, ◌<◌, ◌≤◌, true, List, length, Contains}
use Rattle.listed.specs.Lists.{differ}
use Rattle.osek_machine.specs.Activations.{Activation, activations}
use Rattle.osek_machine.specs.Declarations.{KeepsArrivals, PairsReturns, IsDeclared}
use Rattle.osek_machine.specs.Events.{Event, duration}
use Rattle.osek_machine.specs.Runs.{IsRun}
use Rattle.osek_machine.specs.State.{MachineState}
use Rattle.graph_runs.specs.Walking.{MisusesNothing}
use Rattle.wcet_atomic_blocks.specs.Plants.{PlantData, IsPlant}
use Rattle.abstract_sched.specs.declared.states.AbsState.{AbsState}
use Rattle.abstract_sched.specs.States.{same_state}
use Rattle.shadow_runs.specs.Covering.{IsCase}
use Rattle.certificate.specs.declared.cert.Cert.{Cert}
use Rattle.bound_checker.specs.Good.{IsGood}
use Rattle.trace_check.specs.declared.verdict.TraceVerdict.TheVariants.{Fits}
use Rattle.trace_check.specs.Trace.{IsLawful}
use Rattle.trace_check.specs.Verdict.{verdict_of}
use Rattle.trace_record.specs.Recording.{recorded_in, recording_of}

-- No activation of the task in this run lasts longer than so many cycles, ended or not.
abbrev pub LastWithin : PlantData → ℕ → ℕ → ℕ → List Event → Type 0
LastWithin plant task bound mode events = (activation : Activation)
    → Contains (activations plant.system mode events) activation → activation.task ≡ task → activation.cycles ≤ bound

abbrev pub RecordingFits : PlantData → ℕ → ℕ → ℕ → List Event → Type 0
RecordingFits plant task bound mode events = verdict_of plant task bound (recording_of plant.system mode events) ≡ Fits

-- A run in which returns are paired and sources arrive in time: of loops and costs nothing is asked, nor of stores to code.
-- There is a closed list of the plant's scheduler states.
abbrev pub RecordingsFit : Type 0
RecordingsFit = (plant : PlantData) (states : List AbsState) (task bound mode : ℕ) (events : List Event) (state : MachineState)
    → IsCase plant states mode events state → task < length plant.system.tasks
    → KeepsArrivals plant.system plant.timing events → LastWithin plant task bound mode events
    → RecordingFits plant task bound mode events

-- A certificate's bound holds of every declared run, so each of their recordings fits by a good certificate.
abbrev pub GoodCertificatesFit : Type 0
GoodCertificatesFit = (plant : PlantData) (task : ℕ) (cert : Cert) (mode : ℕ) (events : List Event) (state : MachineState)
    → IsPlant plant → differ same_state cert.states ≡ true → task < length plant.system.tasks → IsGood plant task cert
    → IsRun plant.image plant.system mode events state → IsDeclared plant.image plant.system plant.timing events
    → RecordingFits plant task cert.bound mode events

-- ---- Limits

-- A recording names what exists, and is within the limits of its text, unless the run lasts too long or has too many events.
abbrev pub RecordingsAreLawful : Type 0
RecordingsAreLawful = (plant : PlantData) (mode : ℕ) (events : List Event) (state : MachineState)
    → IsPlant plant → IsRun plant.image plant.system mode events state → PairsReturns plant.image events → MisusesNothing events
    → duration events < 2 ^ 63 → length (recorded_in plant.system events) ≤ 65536
    → IsLawful plant.system (recording_of plant.system mode events)
