-- How often a source is taken in some time: its arrivals lie apart, and each of them waits no longer than is promised.
use Rattle.std.specs.Prelude.{◌≡◌, ℕ, ◌+◌, ◌*◌, ◌≤◌, ◌==◌, nat_lt, List, [], ◌∷◌, ◌++◌, Option, Some, None, if◌then◌else◌}
use Rattle.oil_model.specs.declared.system.System.{System}
use Rattle.elf_image.specs.Image.{ImageData}
use Rattle.osek_kernel.specs.Sources.{source_at}
use Rattle.timing_file.specs.declared.timing.Timing.{Timing}
use Rattle.promises_file.specs.declared.promises.Promises.{Promises}
use Rattle.promises_file.specs.Latencies.{latency_of}
use Rattle.osek_machine.specs.State.{MachineState}
use Rattle.osek_machine.specs.Events.{Event, Taking, Take, duration}
use Rattle.osek_machine.specs.Runs.{IsRun}
use Rattle.osek_machine.specs.Declarations.{KeepsArrivals, distance_of}
use Rattle.promised_runs.specs.Promised.{IsPromised}

-- how often the steps take the source
abbrev pub takings : ℕ → List Event → ℕ
takings source [] = 0
takings source (Take taking ∷ earlier) = (if taking.source == source then 1 else 0) + takings source earlier
takings source (event ∷ earlier) = takings source earlier

-- The most, in cycles, by which an arrival may lie back that counts beside those of its time: the latency, or a whole
-- distance where none is promised, or a greater one.
abbrev pub lesser : ℕ → Option ℕ → ℕ
lesser distance None = distance
lesser distance (Some latency) = if nat_lt latency distance then latency else distance

abbrev pub wait_of : System → Timing → Promises → ℕ → ℕ
wait_of system timing promises source =
    lesser (distance_of system timing (source_at system source)) (latency_of system promises (source_at system source))

-- a run that keeps distances and latencies
pub record KeepsPromises (image : ImageData) (system : System) (timing : Timing) (promises : Promises) (mode : ℕ) (events : List Event) (state : MachineState) : Type 0 where
  pub run : IsRun image system mode events state
  pub arrivals : KeepsArrivals system timing events
  pub promised : IsPromised system promises events

-- The source is taken now. The distance, times how often it was taken in the steps before, back to any moment, is at
-- most the cycles since and the wait.
abbrev pub TakingsLieApart : Type 0
TakingsLieApart = (image : ImageData) (system : System) (timing : Timing) (promises : Promises) (mode : ℕ) (taking : Taking)
    (recent earlier : List Event) (state : MachineState)
    → KeepsPromises image system timing promises mode (Take taking ∷ recent ++ earlier) state
    → duration earlier + distance_of system timing (source_at system taking.source) * takings taking.source recent
    ≤ duration (recent ++ earlier) + wait_of system timing promises taking.source

-- At the start of a run nothing is pending.
abbrev pub FirstTakingsLieApart : Type 0
FirstTakingsLieApart = (image : ImageData) (system : System) (timing : Timing) (promises : Promises) (mode : ℕ) (taking : Taking)
    (recent : List Event) (state : MachineState)
    → KeepsPromises image system timing promises mode (Take taking ∷ recent) state
    → distance_of system timing (source_at system taking.source) * takings taking.source recent ≤ duration recent

-- Where the source was taken before, that taking counts too, and the moment is the one at which it began.
abbrev pub TakingsFollow : Type 0
TakingsFollow = (image : ImageData) (system : System) (timing : Timing) (promises : Promises) (mode : ℕ) (taking before : Taking)
    (recent earlier : List Event) (state : MachineState)
    → KeepsPromises image system timing promises mode (Take taking ∷ recent ++ Take before ∷ earlier) state → before.source ≡ taking.source
    → duration earlier + distance_of system timing (source_at system taking.source) * (takings taking.source recent + 1)
    ≤ duration (recent ++ Take before ∷ earlier) + wait_of system timing promises taking.source
