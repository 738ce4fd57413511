-- What the steps of a player change.
use Rattle.std.specs.Prelude.{◌≡◌, ℕ, ◌+◌, ◌-◌, ◌<◌, ◌==◌, ◌&&◌, Bool, true, false, List, ◌∷◌, Option, Some, None, option_map, slice_index_or, slice_set, Result, Ok, Err, if◌then◌else◌}
use Rattle.std.specs.Option.{option_map_or}
use Rattle.oil_model.specs.declared.system.System.{System}
use Rattle.elf_image.specs.Image.{ImageData, meets_code}
use Rattle.rv32_machine.specs.declared.next.Span.{Span}
use Rattle.timing_file.specs.declared.timing.Timing.{Timing}
use Rattle.osek_kernel.specs.declared.context.Context.{Context}
use Rattle.osek_kernel.specs.declared.context.Context.TheVariants as contexts
use Rattle.flow_graph.specs.Graph.{ends_by}
use Rattle.osek_machine.specs.Events.{Arrival, Taking, Execution, Event, Take, Execute, duration, started_by, ended_by}
use Rattle.osek_machine.specs.Steps.{Step, Arrives, Takes, Idles}
use Rattle.osek_machine.specs.Loops.{innermost}
use Rattle.osek_machine.specs.Declarations.{AreWithinBounds, ReturnsPaired, SparesCode}
use Rattle.osek_machine.specs.Machine.{Fits, state_of}
use Rattle.listed.specs.declared.fault.Fault.{Fault}
use Rattle.listed.specs.declared.fault.Fault.TheVariants.{Kind, Memory}
use Rattle.rv32_decode.specs.declared.instruction.Insn.{Insn}
use Rattle.rv32_machine.specs.Code.{insn_at}
use Rattle.rv32_machine.specs.ContextStep.{Standing}
use Rattle.rv32_machine.specs.Places.{turn_at}
use Rattle.osek_kernel.specs.Running.{runs}
use Rattle.osek_machine.specs.State.{MachineState, standing_of}
use Rattle.osek_machine.specs.Stuck.{IsStuck}
use Rattle.graph_runs.specs.Walking.{IsNoMisuse}
use Rattle.wcet_atomic_blocks.specs.Plants.{PlantData}
use Rattle.replay.specs.declared.laps.Laps.{Laps}
use Rattle.replay.specs.declared.response.PlayKind.{PlayKind}
use Rattle.replay.specs.declared.response.PlayKind.TheVariants.{Unpaired, CodeWritten, LoopPast}
use Rattle.replay.specs.declared.turn.Turn.{Turn}
use Rattle.replay.specs.declared.turn.Turn.TheVariants as turns
use Rattle.replay.specs.Play.{Breaks}
use Rattle.replay.specs.Playing.{IsRunOf}
use Rattle.replay.specs.Tells.{Tells}
use Rattle.replay.specs.declared.player.Player.{Player}
use Rattle.replay.specs.declared.response.Response.{Response}
use Rattle.replay.specs.Working.Follows.{least_pending}
use Rattle.replay.specs.Working.Laps.{AreKept, Answers, MayTurnAt}

-- ---- Laps

-- The step goes past no bound, and the laps are kept.
abbrev pub LapsGoOn : ImageData → System → Timing → Event → Laps → Laps → Type 0
LapsGoOn image system timing event old new = (events : List Event)
    → AreKept image system timing events old → AreWithinBounds image timing events
    → AreKept image system timing (event ∷ events) new × AreWithinBounds image timing (event ∷ events)

-- An execution that goes so, as the answer tells, goes past a bound or not.
abbrev pub LapsTell : ImageData → System → Timing → Event → Laps → Laps → Bool → Type 0
LapsTell image system timing event old new answer = (events : List Event)
    → AreKept image system timing events old → AreWithinBounds image timing events
    → Answers image system timing (event ∷ events) new answer

-- where and when a step was made
abbrev pub IsAt : Context → ℕ → ℕ → Context → ℕ → ℕ → Type 0
IsAt context from start c address moment = (c ≡ context) × (address ≡ from) × (moment ≡ start)

-- ---- Activations

-- there is a place for the task
abbrev pub IsWithin : ℕ → Context → Type 0
IsWithin count (contexts.Task t) = t < count
IsWithin count (contexts.Isr i) = Unit {0}

-- since when tasks are active after a context started at the moment
abbrev pub active_from : Option Context → ℕ → List (Option ℕ) → List (Option ℕ)
active_from (Some (contexts.Task t)) moment active = slice_set active t (Some moment)
active_from context moment active = active

abbrev pub active_without : Option Context → List (Option ℕ) → List (Option ℕ)
active_without (Some (contexts.Task t)) active = slice_set active t None
active_without context active = active

abbrev pub response_from : ℕ → ℕ → ℕ → Response
response_from task moment start = record { task = task; start = start; cycles = moment - start; ended = true }

-- the response of the task that ends at the moment
abbrev pub response_at : Option Context → ℕ → List (Option ℕ) → Option Response
response_at (Some (contexts.Task t)) moment active = option_map (response_from t moment) (slice_index_or active t None)
response_at context moment active = None

-- ---- Services

-- whom a service ends, and which task it activates, by what the machine told of it
abbrev pub ends_then : Context → ℕ → Bool → Option Context
ends_then caller number misuse = if misuse then None else (if ends_by number then Some caller else None)

abbrev pub activates_then : ℕ → ℕ → ℕ → Bool → Option ℕ
activates_then number argument code misuse =
    if misuse then None
    else (if number == 3 then Some argument
    else (if (number == 1) && (code == 0) then Some argument else None))

-- ---- Steps

-- The tables of arrivals and of pending sources stay.
pub record LeavesArrivals (before after : Player) : Type 0 where
  pub arrivals : after.arrivals ≡ before.arrivals
  pub newest : after.newest.items ≡ before.newest.items

pub record HasArrived (system : System) (arrival : Arrival) (before after : Player) : Type 0 where
  pub step : Arrives system arrival (state_of before.machine) (state_of after.machine)
  pub fits : (image : ImageData) → Fits image system before.machine → Fits image system after.machine
  pub arrivals : after.arrivals ≡ before.arrivals + 1
  pub newest : after.newest.items ≡ slice_set before.newest.items arrival.source (Some arrival.moment)
  pub pending : after.pending ≡ least_pending (state_of after.machine).pending
  pub active : after.active.items ≡ before.active.items
  pub laps : after.laps ≡ before.laps
  pub made : after.made ≡ before.made + 1
  pub ended : after.ended ≡ None
  pub fault : after.fault ≡ before.fault

pub record HasTaken (image : ImageData) (system : System) (timing : Timing) (taking : Taking) (before after : Player) : Type 0 where
  pub step : Takes image system taking (state_of before.machine) (state_of after.machine)
  pub fits : Fits image system after.machine
  pub arrivals : LeavesArrivals before after
  pub pending : after.pending ≡ least_pending (state_of after.machine).pending
  pub active : after.active.items ≡ active_from taking.started (state_of before.machine).moment before.active.items
  pub laps : LapsGoOn image system timing (Take taking) before.laps after.laps
  pub made : after.made ≡ before.made + 1
  pub ended : after.ended ≡ None
  pub fault : after.fault ≡ before.fault

pub record HasIdled (system : System) (cycles : ℕ) (before after : Player) : Type 0 where
  pub step : (image : ImageData) → Fits image system before.machine → Idles system cycles (state_of before.machine) (state_of after.machine)
  pub fits : (image : ImageData) → Fits image system before.machine → Fits image system after.machine
  pub arrivals : LeavesArrivals before after
  pub pending : after.pending ≡ before.pending
  pub active : after.active.items ≡ before.active.items
  pub laps : after.laps ≡ before.laps
  pub made : after.made ≡ before.made + 1
  pub ended : after.ended ≡ None
  pub fault : after.fault ≡ before.fault

-- ---- The running context makes a step

-- The context runs, and stands where this instruction stands.
pub record RunsAt (image : ImageData) (system : System) (state : MachineState) (context : Context) (place : ℕ) (insn : Insn) : Type 0 where
  pub standing : Standing
  pub running : runs system state.kernel ≡ Some context
  pub stands : standing_of system state context ≡ Some standing
  pub at : place ≡ standing.place
  pub fetched : insn_at image place ≡ Some insn

-- no context is stuck
abbrev pub NoneIsStuck : ImageData → System → MachineState → Type 0
NoneIsStuck image system state = (context : Context) (address : ℕ) → IsStuck image system state context address → ⊥

-- The laps are those of a run, and one more invocation of the context may be open after a call at the place.
pub record KeepsLaps (plant : PlantData) (context : Context) (place : ℕ) (laps : Laps) : Type 0 where
  pub kept : (events : List Event) × AreKept plant.image plant.system plant.timing events laps
  pub shallow : MayTurnAt plant.system context (turn_at (insn_at plant.image) place) laps.contexts.items

-- what an execution of the context from one address to another does to the laps
abbrev pub TellsTurn : PlantData → Context → ℕ → ℕ → Option ℕ → Laps → Laps → Bool → Type 0
TellsTurn plant context from to call old new answer = (e : Execution)
    → e.context ≡ context → e.before.place ≡ from → e.after.place ≡ to → innermost e.before.calls ≡ call
    → LapsTell plant.image plant.system plant.timing (Execute e) old new answer

abbrev pub writes_code : ImageData → Option Span → Bool
writes_code image stored = option_map_or (λ span. meets_code image span.address span.length) stored false

-- The instruction broke nothing, and the player counts it.
pub record IsFine (plant : PlantData) (context : Context) (from to : ℕ) (call : Option ℕ) (stored : Option Span) (paired : Bool)
    (before after : Player) : Type 0 where
  pub returns : paired ≡ true
  pub spares : writes_code plant.image stored ≡ false
  pub laps : TellsTurn plant context from to call before.laps after.laps true
  pub becomes : after ≡ record before { laps = after.laps; made = before.made + 1; ended = None }

-- nothing but the laps has changed
abbrev pub ChangesLaps : Player → Player → Type 0
ChangesLaps before after = after ≡ record before { laps = after.laps }

-- The instruction of the context at the address was judged.
abbrev pub Judged : PlantData → Context → ℕ → ℕ → Option ℕ → Option Span → Bool → ℕ → Player → Player → Result Turn (Fault PlayKind) → Type 0
Judged plant context from to call stored paired start before after (Ok (turns.Insn begins ends)) =
    IsFine plant context from to call stored paired before after × (begins ≡ start) × (ends ≡ (state_of before.machine).moment)
Judged plant context from to call stored paired start before after (Err (Kind (Unpaired c address moment))) =
    IsAt context from start c address moment × ChangesLaps before after × (paired ≡ false)
Judged plant context from to call stored paired start before after (Err (Kind (CodeWritten c address moment))) =
    IsAt context from start c address moment × ChangesLaps before after × (paired ≡ true) × (writes_code plant.image stored ≡ true)
Judged plant context from to call stored paired start before after (Err (Kind (LoopPast c address moment))) =
    IsAt context from start c address moment × ChangesLaps before after × (paired ≡ true) × (writes_code plant.image stored ≡ false)
    × TellsTurn plant context from to call before.laps after.laps false
Judged plant context from to call stored paired start before after result = ⊥

-- A step of the running context, as it is played.
pub record HasRun (plant : PlantData) (event : Event) (before after : Player) : Type 0 where
  pub step : Step plant.image plant.system event (state_of before.machine) (state_of after.machine)
  pub played : IsRunOf plant.image plant.system plant.timing (state_of before.machine) event
  pub fits : Fits plant.image plant.system after.machine

-- The step broke this, if the laps before it were these.
pub record HasBroken (plant : PlantData) (before after : Player) (fault : PlayKind) : Type 0 where
  pub event : Event
  pub run : HasRun plant event before after
  pub made : after.made ≡ before.made
  pub breaks : (events : List Event) → AreKept plant.image plant.system plant.timing events before.laps
      → AreWithinBounds plant.image plant.timing events → (state_of before.machine).moment ≡ duration events
      → Breaks plant.image plant.system plant.timing event events fault

-- The step broke nothing.
pub record HasMoved (plant : PlantData) (before after : Player) (turn : Turn) : Type 0 where
  pub event : Event
  pub run : HasRun plant event before after
  pub returns : ReturnsPaired plant.image event
  pub code : SparesCode plant.image event
  pub laps : LapsGoOn plant.image plant.system plant.timing event before.laps after.laps
  pub clean : IsNoMisuse event
  pub arrivals : LeavesArrivals before after
  pub pending : after.pending ≡ before.pending
  pub active : after.active.items ≡ active_from (started_by event) (state_of before.machine).moment (active_without (ended_by event) before.active.items)
  pub made : after.made ≡ before.made + 1
  pub ended : after.ended ≡ response_at (ended_by event) (state_of after.machine).moment before.active.items
  pub fault : after.fault ≡ before.fault
  pub told : (events : List Event) → (state_of before.machine).moment ≡ duration events → Tells event events turn

-- Nothing has changed, as far as it can be seen.
pub record Stays (image : ImageData) (system : System) (before after : Player) : Type 0 where
  pub state : state_of after.machine ≡ state_of before.machine
  pub fits : Fits image system after.machine
  pub same : after ≡ record before { machine = after.machine }

abbrev pub RunGives : PlantData → Player → Player → Result Turn (Fault PlayKind) → Type 0
RunGives plant before after (Ok turn) = HasMoved plant before after turn
RunGives plant before after (Err (Kind fault)) = HasBroken plant before after fault
RunGives plant before after (Err Memory) = Stays plant.image plant.system before after
