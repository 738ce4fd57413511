-- What is kept while a run is played to its end, and what its open activations last.
use Rattle.std.specs.Prelude.{◌≡◌, ℕ, ◌-◌, Bool, true, false, List, ◌∷◌, length, map, reverse, filter_map, slice_index_or, Option, None, option_map, Result, Ok, Err}
use Rattle.std.specs.List.{range_with_len}
use Rattle.listed.specs.declared.fault.Fault.{Fault}
use Rattle.listed.specs.declared.fault.Fault.TheVariants.{Kind, Memory}
use Rattle.osek_machine.specs.Activations.{ended_in}
use Rattle.osek_machine.specs.Events.{Event}
use Rattle.wcet_atomic_blocks.specs.Plants.{PlantData}
use Rattle.replay.specs.declared.player.Player.{Player}
use Rattle.replay.specs.declared.response.PlayKind.{PlayKind}
use Rattle.replay.specs.declared.response.Response.{Response}
use Rattle.replay.specs.declared.schedule.Schedule.{Schedule}
use Rattle.replay.specs.declared.turn.Turn.{Turn}
use Rattle.replay.specs.declared.turn.Turn.TheVariants as turns
use Rattle.replay.specs.Play.{PlaysUpTo, response_of}
use Rattle.replay.specs.Turning.{IsBroken, IsDone, Stands, response_now}

-- ---- Responses

-- those of the activations that have ended, in the order of their ends
abbrev pub ended_responses : PlantData → Schedule → List Event → List Response
ended_responses plant schedule events = map response_of (reverse (ended_in plant.system schedule.mode events))

abbrev pub open_response : ℕ → ℕ → ℕ → Response
open_response moment task start = record { task = task; start = start; cycles = moment - start; ended = false }

-- the response of the task by the moment, if it is active
abbrev pub open_at : ℕ → List (Option ℕ) → ℕ → Option Response
open_at moment active task = option_map (open_response moment task) (slice_index_or active task None)

abbrev pub open_responses : ℕ → List (Option ℕ) → List Response
open_responses moment active = filter_map (open_at moment active) (range_with_len 0 (length active))

-- ---- Rounds

-- The player stands after these steps, has met no fault, and these are the responses so far.
pub record IsAfter (plant : PlantData) (schedule : Schedule) (events : List Event) (player : Player) (responses : List Response) : Type 0 where
  pub stands : Stands plant schedule events player
  pub sound : player.fault ≡ None
  pub told : responses ≡ ended_responses plant schedule events

abbrev pub IsPlaying : PlantData → Schedule → Player → List Response → Type 0
IsPlaying plant schedule player responses = (events : List Event) × IsAfter plant schedule events player responses

-- whether the turn tells a step
abbrev pub is_step : Turn → Bool
is_step turns.Done = false
is_step turn = true

-- One more step was made.
pub record Advances (plant : PlantData) (schedule : Schedule) (events : List Event) (player : Player) : Type 0 where
  pub event : Event
  pub stands : Stands plant schedule (event ∷ events) player
  pub ended : player.ended ≡ response_now plant schedule event events
  pub sound : player.fault ≡ None

abbrev pub AdvanceGives : PlantData → Schedule → List Event → Player → Player → Result Bool (Fault PlayKind) → Type 0
AdvanceGives plant schedule events before after (Ok true) = Advances plant schedule events after
AdvanceGives plant schedule events before after (Ok false) = IsDone plant schedule events × (after ≡ before)
AdvanceGives plant schedule events before after (Err (Kind fault)) = IsBroken plant schedule events fault
AdvanceGives plant schedule events before after (Err Memory) = Unit {0}

-- The run was played to its end.
pub record HasEnded (plant : PlantData) (schedule : Schedule) (player : Player) (responses : List Response) : Type 0 where
  pub events : List Event
  pub after : IsAfter plant schedule events player responses
  pub done : IsDone plant schedule events

abbrev pub RoundsGive : {U : Type 0} → PlantData → Schedule → Player → List Response → Result U (Fault PlayKind) → Type 0
RoundsGive plant schedule player responses (Ok unit) = HasEnded plant schedule player responses
RoundsGive plant schedule player responses (Err (Kind fault)) = PlaysUpTo plant.image plant.system plant.timing schedule fault
RoundsGive plant schedule player responses (Err Memory) = Unit {0}
