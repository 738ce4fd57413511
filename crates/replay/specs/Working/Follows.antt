-- What a player keeps of the steps that it has made.
use Rattle.std.specs.Prelude.{◌≡◌, ℕ, ◌+◌, ◌^◌, ◌<◌, ◌≤◌, Bool, List, [], ◌∷◌, length, position, slice_get, slice_index_or, option_map, Option, Some, None}
use Rattle.oil_model.specs.declared.system.System.{System}
use Rattle.elf_image.specs.Image.{ImageData}
use Rattle.timing_file.specs.declared.timing.Timing.{Timing}
use Rattle.osek_kernel.specs.declared.kernel.Kernel.{Kernel}
use Rattle.osek_kernel.specs.Kernel.{task_state}
use Rattle.osek_kernel.specs.Sources.{source_count}
use Rattle.osek_machine.specs.Events.{Event}
use Rattle.osek_machine.specs.Activations.{active_since}
use Rattle.osek_machine.specs.Declarations.{arrivals_of, IsDeclared}
use Rattle.osek_machine.specs.Machine.{Fits, state_of}
use Rattle.graph_runs.specs.Walking.{MisusesNothing}
use Rattle.replay.specs.declared.player.Player.{Player}
use Rattle.replay.specs.declared.schedule.Arrival.{Arrival}
use Rattle.replay.specs.declared.schedule.Schedule.{Schedule}
use Rattle.replay.specs.Playing.{IsPlayed, arrivals_made}
use Rattle.replay.specs.Working.Laps.{AreKept}

-- ---- Arrivals

-- moments, none above the one before it, and the first not above this one
abbrev pub Descend : ℕ → List ℕ → Type 0
Descend high [] = Unit {0}
Descend high (moment ∷ moments) = (moment ≤ high) × Descend moment moments

-- The arrival comes no earlier than any that was made, and lies in the last step that takes time.
pub record ComesLater (events : List Event) (last_start : ℕ) (arrival : Arrival) : Type 0 where
  pub begun : last_start ≤ arrival.at
  pub descend : (source : ℕ) → Descend arrival.at (arrivals_of source events)

-- So many listed arrivals were made, and the newest one of each source is known.
pub record KnowsArrivals (system : System) (schedule : Schedule) (events : List Event) (last_start arrivals : ℕ) (newest : List (Option ℕ)) : Type 0 where
  pub made : arrivals ≡ arrivals_made events
  pub few : arrivals ≤ length schedule.arrivals
  pub later : (arrival : Arrival) → slice_get schedule.arrivals arrivals ≡ Some arrival → ComesLater events last_start arrival
  pub count : length newest ≡ source_count system
  pub each : (source : ℕ) → source < source_count system → slice_index_or newest source None ≡ slice_get (arrivals_of source events) 0

-- ---- Activations

-- It is known since when each task is active.
pub record KnowsActive (system : System) (mode : ℕ) (events : List Event) (active : List (Option ℕ)) : Type 0 where
  pub count : length active ≡ length system.tasks
  pub each : (task : ℕ) → task < length system.tasks → slice_index_or active task None ≡ active_since system mode task events

-- At the start exactly the active tasks are so, since moment 0.
pub record AreActiveAtStart (system : System) (kernel : Kernel) (active : List (Option ℕ)) : Type 0 where
  pub count : length active ≡ length system.tasks
  pub each : (task : ℕ) → task < length active → slice_index_or active task None ≡ option_map (λ state. 0) (task_state kernel task)

-- ---- Steps

-- each step but an arrival takes time
pub record AreFew (made arrivals moment : ℕ) : Type 0 where
  pub steps : made ≤ arrivals + moment
  pub most : made ≤ 2 ^ 25

-- ---- All of it

abbrev pub least_pending : List Bool → Option ℕ
least_pending pending = position (λ pending. pending) pending

pub record Follows (image : ImageData) (system : System) (timing : Timing) (schedule : Schedule) (events : List Event) (player : Player) : Type 0 where
  pub run : IsPlayed image system timing schedule events (state_of player.machine)
  pub fits : Fits image system player.machine
  pub declared : IsDeclared image system timing events
  pub clean : MisusesNothing events
  pub made : player.made ≡ length events
  pub few : AreFew player.made player.arrivals (state_of player.machine).moment
  pub arrivals : KnowsArrivals system schedule events (state_of player.machine).last_start player.arrivals player.newest.items
  pub pending : player.pending ≡ least_pending (state_of player.machine).pending
  pub active : KnowsActive system schedule.mode events player.active.items
  pub laps : AreKept image system timing events player.laps
