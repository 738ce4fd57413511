-- A closed list of scheduler states covers every run of the machine that pairs its returns: the laws of the
-- simulation.
use Rattle.std.specs.Prelude.{◌≡◌, ℕ, List, ◌∷◌, Contains, false, Option, Some, Ok}
use Rattle.rv32_machine.specs.Code.{insn_at}
use Rattle.rv32_machine.specs.ContextStep.{Standing}
use Rattle.osek_kernel.specs.declared.context.Context.{Context}
use Rattle.osek_kernel.specs.Contexts.{IsContext}
use Rattle.osek_kernel.specs.Positions.{position_of}
use Rattle.osek_machine.specs.State.{MachineState, standing_of}
use Rattle.osek_machine.specs.Events.{Execution, ServiceCall, Event, Arrive, Take, Execute, Serve, Idle}
use Rattle.osek_machine.specs.Steps.{Step}
use Rattle.osek_machine.specs.Runs.{IsRun}
use Rattle.osek_machine.specs.Declarations.{PairsReturns, ReturnsPaired}
use Rattle.osek_machine.specs.Stuck.{IsStuck}
use Rattle.graph_runs.specs.Walking.{MisusesNothing, IsNoMisuse}
use Rattle.flow_graph.specs.Standing.{PlaceFacts}
use Rattle.wcet_atomic_blocks.specs.Blocks.{HasEdge, is_service}
use Rattle.wcet_atomic_blocks.specs.PlantLaws.{HasNode}
use Rattle.wcet_atomic_blocks.specs.Plants.{PlantData, IsPlant}
use Rattle.abstract_sched.specs.declared.states.AbsState.{AbsState}
use Rattle.abstract_sched.specs.States.{kernel_of}
use Rattle.scheduler_moves.specs.declared.moves.Move.{Move}
use Rattle.scheduler_moves.specs.declared.moves.MoveLabel.{MoveLabel}
use Rattle.scheduler_moves.specs.declared.moves.MoveLabel.TheVariants as labels
use Rattle.scheduler_moves.specs.Closed.{IsClosed}
use Rattle.scheduler_moves.specs.Moves.{blocks_in, successors, exits_in}
use Rattle.shadow_runs.specs.Shadow.{node_of, begun, shadow}

-- ---- What is covered

-- A run of the machine over the plant's image and system that starts in the mode, leads to the state, and in which
-- each return goes behind the innermost open call; and a closed list of states.
pub record IsCase (plant : PlantData) (states : List AbsState) (mode : ℕ) (events : List Event) (state : MachineState) : Type 0 where
  pub belongs : IsPlant plant
  pub closed : IsClosed plant states
  pub run : IsRun plant.image plant.system mode events state
  pub pairs : PairsReturns plant.image events

-- ---- After each run

-- The context stands at a node that is in the block which it began last.
pub record IsInside (plant : PlantData) (blocks : List (Option ℕ)) (context : Context) (standing : Standing) : Type 0 where
  pub node : ℕ
  pub stands : node_of plant context standing ≡ Some node
  pub block : ℕ
  pub began : position_of plant.system blocks context ≡ Some block
  pub inside : HasNode plant node block

-- Each active context stands inside its block.
abbrev pub AreInside : PlantData → ℕ → List Event → MachineState → Type 0
AreInside plant mode events state = (context : Context) (standing : Standing) → IsContext plant.system context
    → standing_of plant.system state context ≡ Some standing → IsInside plant (begun plant mode events) context standing

-- The shadow is listed. Its kernel is the machine's, and its blocks are those that were begun last.
pub record IsCovered (plant : PlantData) (states : List AbsState) (mode : ℕ) (events : List Event) (state : MachineState) : Type 0 where
  pub listed : Contains states (shadow plant mode events state)
  pub kernel : kernel_of (shadow plant mode events state) ≡ state.kernel
  pub blocks : blocks_in plant (shadow plant mode events state) ≡ begun plant mode events
  pub inside : AreInside plant mode events state

abbrev pub RunsAreCovered : Type 0
RunsAreCovered = (plant : PlantData) (states : List AbsState) (mode : ℕ) (events : List Event) (state : MachineState)
    → IsCase plant states mode events state → IsCovered plant states mode events state

-- No step of such a run is a misuse of a service.
abbrev pub NothingIsMisused : Type 0
NothingIsMisused = (plant : PlantData) (states : List AbsState) (mode : ℕ) (events : List Event) (state : MachineState)
    → IsCase plant states mode events state → MisusesNothing events

-- ---- In each step

-- what is asked of each step: the run before it is covered, and it pairs its return
pub record IsStepOf (plant : PlantData) (states : List AbsState) (mode : ℕ) (event : Event) (earlier : List Event) (before after : MachineState) : Type 0 where
  pub before_it : IsCase plant states mode earlier before
  pub step : Step plant.image plant.system event before after
  pub pairs : ReturnsPaired plant.image event

-- the shadows before and after a step
abbrev pub ShadowStays : PlantData → ℕ → Event → List Event → MachineState → MachineState → Type 0
ShadowStays plant mode event earlier before after = shadow plant mode (event ∷ earlier) after ≡ shadow plant mode earlier before

-- An instruction step follows an edge between two nodes of the block of the context that runs, from a node that is no
-- ECALL, and the shadow stays.
pub record FollowsEdge (plant : PlantData) (mode : ℕ) (execution : Execution) (earlier : List Event) (before after : MachineState) : Type 0 where
  pub node : ℕ
  pub stands : node_of plant execution.context execution.before ≡ Some node
  pub next : ℕ
  pub arrives : node_of plant execution.context execution.after ≡ Some next
  pub edge : HasEdge plant.flow node next
  pub instruction : is_service plant.flow node ≡ false
  pub block : ℕ
  pub began : position_of plant.system (begun plant mode earlier) execution.context ≡ Some block
  pub inside : HasNode plant node block
  pub inside_next : HasNode plant next block
  pub stays : ShadowStays plant mode (Execute execution) earlier before after

-- The step makes the move from the shadow before it to the one after it.
pub record MakesMove (plant : PlantData) (mode : ℕ) (label : MoveLabel) (event : Event) (earlier : List Event) (before after : MachineState) : Type 0 where
  pub moves : List Move
  pub moved : successors plant (shadow plant mode earlier before) ≡ Ok moves
  pub listed : Contains moves (record { label = label; to = shadow plant mode (event ∷ earlier) after })

-- A service is called at an exit of the caller's block.
pub record CallsAtExit (plant : PlantData) (mode : ℕ) (call : ServiceCall) (earlier : List Event) (before after : MachineState) : Type 0 where
  pub node : ℕ
  pub stands : node_of plant call.caller call.before ≡ Some node
  pub at_exit : Contains (exits_in plant (shadow plant mode earlier before) call.caller) node
  pub makes : MakesMove plant mode (labels.Service node) (Serve call) earlier before after

abbrev pub StepIsCovered : PlantData → ℕ → Event → List Event → MachineState → MachineState → Type 0
StepIsCovered plant mode (Arrive arrival) earlier before after = ShadowStays plant mode (Arrive arrival) earlier before after
StepIsCovered plant mode (Take taking) earlier before after = MakesMove plant mode (labels.Take taking.source) (Take taking) earlier before after
StepIsCovered plant mode (Execute execution) earlier before after = FollowsEdge plant mode execution earlier before after
StepIsCovered plant mode (Serve call) earlier before after = CallsAtExit plant mode call earlier before after
StepIsCovered plant mode (Idle cycles) earlier before after = ShadowStays plant mode (Idle cycles) earlier before after

abbrev pub StepsAreCovered : Type 0
StepsAreCovered = (plant : PlantData) (states : List AbsState) (mode : ℕ) (event : Event) (earlier : List Event) (before after : MachineState)
    → IsStepOf plant states mode event earlier before after
    → StepIsCovered plant mode event earlier before after × IsNoMisuse event

-- ---- At each place

-- Nobody is stuck, and registers hold what the words before a place put there.
pub record MakesSense (plant : PlantData) (state : MachineState) : Type 0 where
  pub moves : (context : Context) (address : ℕ) → IsStuck plant.image plant.system state context address → ⊥
  pub facts : (context : Context) (standing : Standing) → IsContext plant.system context → standing_of plant.system state context ≡ Some standing
      → PlaceFacts (insn_at plant.image) standing.place standing.registers

abbrev pub PlacesMakeSense : Type 0
PlacesMakeSense = (plant : PlantData) (states : List AbsState) (mode : ℕ) (events : List Event) (state : MachineState)
    → IsCase plant states mode events state → MakesSense plant state
