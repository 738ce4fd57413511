-- What the turns of a player that has met no fault give.
use Rattle.std.specs.Prelude.{◌≡◌, ℕ, ◌≤◌, ◌^◌, List, ◌∷◌, length, Some, Result, Ok, Err}
use Rattle.listed.specs.declared.fault.Fault.{Fault}
use Rattle.listed.specs.declared.fault.Fault.TheVariants.{Kind, Memory}
use Rattle.oil_model.specs.declared.system.System.{System}
use Rattle.rv32_machine.specs.ContextStep.{Standing}
use Rattle.timing_file.specs.Lawful.{IsLawful as IsLawfulTiming}
use Rattle.osek_kernel.specs.declared.context.Context.{Context}
use Rattle.osek_kernel.specs.Running.{runs}
use Rattle.osek_machine.specs.Events.{Event}
use Rattle.osek_machine.specs.State.{MachineState, standing_of}
use Rattle.osek_machine.specs.Machine.{Fits, state_of}
use Rattle.wcet_atomic_blocks.specs.Plants.{PlantData}
use Rattle.replay.specs.declared.player.Player.{Player}
use Rattle.replay.specs.declared.response.PlayKind.{PlayKind}
use Rattle.replay.specs.declared.schedule.Schedule.{Schedule}
use Rattle.replay.specs.declared.turn.Turn.{Turn}
use Rattle.replay.specs.declared.turn.Turn.TheVariants as turns
use Rattle.replay.specs.Tells.{Tells}
use Rattle.replay.specs.Turning.{IsAtEnd, IsBroken, IsDone, response_now}
use Rattle.replay.specs.Working.Follows.{Follows}
use Rattle.replay.specs.Working.Moves.{KeepsLaps, NoneIsStuck}

abbrev pub FollowsPlant : PlantData → Schedule → List Event → Player → Type 0
FollowsPlant plant schedule events player = Follows plant.image plant.system plant.timing schedule events player

abbrev pub IsFollowing : PlantData → Schedule → Player → Type 0
IsFollowing plant schedule player = (events : List Event) × FollowsPlant plant schedule events player

-- One more step was made.
pub record Moved (plant : PlantData) (schedule : Schedule) (events : List Event) (before after : Player) (turn : Turn) : Type 0 where
  pub event : Event
  pub tells : Tells event events turn
  pub follows : FollowsPlant plant schedule (event ∷ events) after
  pub ended : after.ended ≡ response_now plant schedule event events
  pub fault : after.fault ≡ before.fault

abbrev pub MoveGives : PlantData → Schedule → List Event → Player → Player → Result Turn (Fault PlayKind) → Type 0
MoveGives plant schedule events before after (Ok turns.Done) = IsDone plant schedule events × (after ≡ before) × IsAtEnd plant schedule after
MoveGives plant schedule events before after (Ok turn) = Moved plant schedule events before after turn
MoveGives plant schedule events before after (Err (Kind fault)) = IsBroken plant schedule events fault × (after.made ≡ before.made)
MoveGives plant schedule events before after (Err Memory) = FollowsPlant plant schedule events after × (after.fault ≡ before.fault)

-- ---- Before the running context makes a step

-- the running context stands at the place
pub record StandsThere (system : System) (state : MachineState) (context : Context) (place : ℕ) : Type 0 where
  pub standing : Standing
  pub stands : standing_of system state context ≡ Some standing
  pub at : place ≡ standing.place

pub record IsReady (plant : PlantData) (player : Player) (context : Context) : Type 0 where
  pub timing : IsLawfulTiming plant.timing
  pub fits : Fits plant.image plant.system player.machine
  pub running : runs plant.system (state_of player.machine).kernel ≡ Some context
  pub goes : NoneIsStuck plant.image plant.system (state_of player.machine)
  pub laps : (place : ℕ) → StandsThere plant.system (state_of player.machine) context place → KeepsLaps plant context place player.laps
  pub tasks : length player.active.items ≡ length plant.system.tasks
  pub soon : (state_of player.machine).moment ≤ 2 ^ 32
  pub few : player.made ≤ 2 ^ 32
