-- The turns of a player: they tell the steps of the run that a schedule plays, in order, up to the first broken one.
use Rattle.std.specs.Prelude.{◌≡◌, List, ◌∷◌, length, option_map, Option, Some, None, Result, Ok, Err}
use Rattle.listed.specs.declared.fault.Fault.{Fault}
use Rattle.listed.specs.declared.fault.Fault.TheVariants.{Kind, Memory}
use Rattle.osek_machine.specs.State.{MachineState}
use Rattle.osek_machine.specs.Events.{Event, ended_by}
use Rattle.osek_machine.specs.Declarations.{IsDeclared}
use Rattle.osek_machine.specs.Activations.{ended_now}
use Rattle.osek_machine.specs.Machine.{state_of}
use Rattle.graph_runs.specs.Walking.{MisusesNothing}
use Rattle.wcet_atomic_blocks.specs.Plants.{PlantData}
use Rattle.replay.specs.declared.player.Player.{Player}
use Rattle.replay.specs.declared.response.PlayKind.{PlayKind}
use Rattle.replay.specs.declared.response.Response.{Response}
use Rattle.replay.specs.declared.schedule.Schedule.{Schedule}
use Rattle.replay.specs.declared.turn.Turn.{Turn}
use Rattle.replay.specs.declared.turn.Turn.TheVariants as turns
use Rattle.replay.specs.Play.{Breaks, response_of}
use Rattle.replay.specs.declared.next.Next.TheVariants as next
use Rattle.replay.specs.Playing.{IsPlayed, HasStopped, next_of}
use Rattle.replay.specs.Tells.{Tells}
use Rattle.replay.specs.Working.Follows.{Follows}

-- ---- Where a player stands

-- The run was played to these steps.
pub record HasPlayed (plant : PlantData) (schedule : Schedule) (events : List Event) : Type 0 where
  pub state : MachineState
  pub played : IsPlayed plant.image plant.system plant.timing schedule events state

-- These steps keep what is declared and misuse nothing, and the next one breaks what the fault tells.
pub record IsBroken (plant : PlantData) (schedule : Schedule) (events : List Event) (fault : PlayKind) : Type 0 where
  pub event : Event
  pub played : HasPlayed plant schedule (event ∷ events)
  pub breaks : Breaks plant.image plant.system plant.timing event events fault

-- what a player keeps: the tables of its run, or the fault that it has met
abbrev pub Keeps : PlantData → Schedule → List Event → Player → Option PlayKind → Type 0
Keeps plant schedule events player None = Follows plant.image plant.system plant.timing schedule events player
Keeps plant schedule events player (Some fault) = IsBroken plant schedule events fault

-- The player stands after these steps of the run, which keep what is declared and misuse nothing.
pub record Stands (plant : PlantData) (schedule : Schedule) (events : List Event) (player : Player) : Type 0 where
  pub played : HasPlayed plant schedule events
  pub declared : IsDeclared plant.image plant.system plant.timing events
  pub clean : MisusesNothing events
  pub made : player.made ≡ length events
  pub keeps : Keeps plant schedule events player player.fault

-- The player stands somewhere in the run.
abbrev pub IsPlayer : PlantData → Schedule → Player → Type 0
IsPlayer plant schedule player = (events : List Event) × Stands plant schedule events player

-- ---- What a turn tells

-- the response of the task that the newest step ends, if it ends one
abbrev pub response_now : PlantData → Schedule → Event → List Event → Option Response
response_now plant schedule event earlier =
    option_map response_of (ended_now plant.system schedule.mode (ended_by event) event earlier)

-- One more step was made, and the player stands after it.
pub record GoesOn (plant : PlantData) (schedule : Schedule) (events : List Event) (player : Player) (turn : Turn) : Type 0 where
  pub event : Event
  pub tells : Tells event events turn
  pub stands : Stands plant schedule (event ∷ events) player
  pub ended : player.ended ≡ response_now plant schedule event events
  pub sound : player.fault ≡ None

-- The run has ended with these steps.
pub record IsDone (plant : PlantData) (schedule : Schedule) (events : List Event) : Type 0 where
  pub state : MachineState
  pub played : IsPlayed plant.image plant.system plant.timing schedule events state
  pub stopped : HasStopped plant.system schedule events state

-- The run ends where the player stands.
abbrev pub IsAtEnd : PlantData → Schedule → Player → Type 0
IsAtEnd plant schedule player = next_of plant.system schedule player.arrivals (state_of player.machine) ≡ next.Stop

-- The next step met the fault, which the player tells from then on.
pub record Stops (plant : PlantData) (schedule : Schedule) (events : List Event) (player : Player) (fault : PlayKind) : Type 0 where
  pub broken : IsBroken plant schedule events fault
  pub stands : Stands plant schedule events player
  pub kept : player.fault ≡ Some fault

-- What a turn answers after these steps. At the run's end nothing has changed, and after want of memory the player
-- stands where it stood.
abbrev pub TurnGives : PlantData → Schedule → List Event → Player → Player → Result Turn (Fault PlayKind) → Type 0
TurnGives plant schedule events before after (Ok turns.Done) = IsDone plant schedule events × (after ≡ before) × IsAtEnd plant schedule after
TurnGives plant schedule events before after (Ok turn) = GoesOn plant schedule events after turn
TurnGives plant schedule events before after (Err (Kind fault)) = Stops plant schedule events after fault
TurnGives plant schedule events before after (Err Memory) = Stands plant schedule events after × (after.fault ≡ before.fault)
