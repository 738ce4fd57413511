-- What a service costs, and how its call is judged.
use Rattle.std.specs.Prelude.{◌≡◌, ℕ, ◌+◌, Bool, true, false, List, Option, option_map, Result, Ok, Err}
use Rattle.std.specs.Option.{option_map_or}
use Rattle.listed.specs.declared.fault.Fault.{Fault}
use Rattle.listed.specs.declared.fault.Fault.TheVariants.{Kind}
use Rattle.rv32_machine.specs.ContextStep.{Standing}
use Rattle.timing_file.specs.declared.timing.Timing.{Timing}
use Rattle.timing_file.specs.Costs.{service_cost}
use Rattle.osek_kernel.specs.declared.context.Context.{Context}
use Rattle.osek_kernel.specs.declared.context.Context.TheVariants as contexts
use Rattle.osek_kernel.specs.Services.{service_of}
use Rattle.osek_machine.specs.Events.{Serve, ServiceCall}
use Rattle.osek_machine.specs.Machine.{state_of}
use Rattle.osek_machine.specs.Steps.{number_in}
use Rattle.wcet_atomic_blocks.specs.Plants.{PlantData}
use Rattle.replay.specs.declared.laps.Laps.{Laps}
use Rattle.replay.specs.declared.player.Player.{Player}
use Rattle.replay.specs.declared.response.PlayKind.{PlayKind}
use Rattle.replay.specs.declared.response.PlayKind.TheVariants.{LoopPast, Misuse}
use Rattle.replay.specs.declared.turn.Turn.{Turn}
use Rattle.replay.specs.declared.turn.Turn.TheVariants as turns
use Rattle.replay.specs.Working.Moves.{ChangesLaps, IsAt, LapsTell, active_from, active_without, activates_then, ends_then, response_at}

-- ---- Costs

abbrev pub number_cost : Timing → ℕ → ℕ → ℕ
number_cost timing number place = option_map_or (λ service. service_cost timing service place) (service_of number) 0

-- what the context asks for that stands so
abbrev pub request_cost : Timing → Option Standing → ℕ → ℕ
request_cost timing standing place = option_map_or (λ s. number_cost timing (number_in s) place) standing 0

-- ---- Judging

-- what a call of the caller at the address does to the laps
abbrev pub TellsCall : PlantData → Context → ℕ → Option Context → Option ℕ → Laps → Laps → Bool → Type 0
TellsCall plant caller at ended activated old new answer = (c : ServiceCall)
    → c.caller ≡ caller → c.before.place ≡ at → c.reply.ended ≡ ended → c.reply.activated ≡ activated
    → LapsTell plant.image plant.system plant.timing (Serve c) old new answer

-- The call broke nothing, and the player counts it.
pub record IsCounted (plant : PlantData) (caller : Context) (place number argument code : ℕ) (misuse : Bool) (start : ℕ) (before after : Player) : Type 0 where
  pub clean : misuse ≡ false
  pub laps : TellsCall plant caller place (ends_then caller number misuse) (activates_then number argument code misuse) before.laps after.laps true
  pub machine : after.machine ≡ before.machine
  pub arrivals : after.arrivals ≡ before.arrivals
  pub newest : after.newest ≡ before.newest
  pub pending : after.pending ≡ before.pending
  pub active : after.active.items ≡ active_from (option_map contexts.Task (activates_then number argument code misuse)) start
      (active_without (ends_then caller number misuse) before.active.items)
  pub ended : after.ended ≡ response_at (ends_then caller number misuse) (state_of before.machine).moment before.active.items
  pub made : after.made ≡ before.made + 1
  pub fault : after.fault ≡ before.fault

abbrev pub ServeJudged : PlantData → Context → ℕ → ℕ → ℕ → ℕ → Bool → List ℕ → ℕ → Player → Player → Result Turn (Fault PlayKind) → Type 0
ServeJudged plant caller place number argument code misuse sites start before after (Ok (turns.Service c s a begins ends)) =
    IsCounted plant caller place number argument code misuse start before after
    × (c ≡ caller) × (s ≡ sites) × (a ≡ place) × (begins ≡ start) × (ends ≡ (state_of before.machine).moment)
ServeJudged plant caller place number argument code misuse sites start before after (Err (Kind (LoopPast c a moment))) =
    IsAt caller place start c a moment × ChangesLaps before after
    × TellsCall plant caller place (ends_then caller number misuse) (activates_then number argument code misuse) before.laps after.laps false
ServeJudged plant caller place number argument code misuse sites start before after (Err (Kind (Misuse c a told moment))) =
    IsAt caller place start c a moment × ChangesLaps before after × (told ≡ code) × (misuse ≡ true)
    × TellsCall plant caller place (ends_then caller number misuse) (activates_then number argument code misuse) before.laps after.laps true
ServeJudged plant caller place number argument code misuse sites start before after result = ⊥
