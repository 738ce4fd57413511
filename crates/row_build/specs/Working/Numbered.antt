-- Columns that name states by their places in the list of states, and what they stand for.
use Rattle.std.specs.Prelude.{◌≡◌, ℕ, ◌<◌, List, [], length, map, take, false, slice_get, slice_index_or, All, Contains, Option, Some, None}
use Rattle.std.specs.BTreeMap.{BTreeMap, get}
use Rattle.osek_kernel.specs.declared.context.Context.{Context}
use Rattle.wcet_atomic_blocks.specs.Plants.{PlantData}
use Rattle.abstract_sched.specs.declared.states.AbsState.{AbsState}
use Rattle.abstract_sched.specs.contracts.states.AbsStateOrd.TheImpl as order
use Rattle.scheduler_moves.specs.Moves.{initial, running_in}
use Rattle.row_build.specs.declared.numbered.NumberedMove.{NumberedMove}
use Rattle.row_build.specs.declared.numbered.NumberedStart.{NumberedStart}
use Rattle.row_build.specs.declared.numbered.NumberedStart.TheVariants as starts
use Rattle.row_build.specs.declared.numbered.NumberedEdge.{NumberedEdge}
use Rattle.row_build.specs.declared.numbered.NumberedColumn.{NumberedColumn}
use Rattle.row_build.specs.declared.numbered.NumberedColumn.TheVariants as numbered
use Rattle.row_build.specs.Columns

-- ---- States by their numbers

abbrev pub no_state : AbsState
no_state = record { mode = 0; tasks = []; isr = None; disabled = false; suspended = 0 }

abbrev pub state_at : List AbsState → ℕ → AbsState
state_at states number = slice_index_or states number no_state

-- the map has the numbers of the first so many states
pub record AreNumbers (map : BTreeMap AbsState ℕ) (states : List AbsState) (count : ℕ) : Type 0 where
  pub found : (state : AbsState) (number : ℕ) → get order.cmp-value.it map state ≡ Some number → slice_get states number ≡ Some state
  pub none : (state : AbsState) → get order.cmp-value.it map state ≡ None → Contains (take count states) state → ⊥

-- the context that runs in each state
abbrev pub AreRunning : PlantData → List AbsState → List (Option Context) → Type 0
AreRunning plant states running = running ≡ map (running_in plant) states

-- ---- Moves

abbrev pub going_of : List AbsState → NumberedMove → Columns.Going
going_of states going = record { from = state_at states going.from; move = record { label = going.label; to = state_at states going.to } }

pub record IsMove (states : List AbsState) (going : NumberedMove) : Type 0 where
  pub from : going.from < length states
  pub to : going.to < length states

-- ---- Starts

abbrev pub start_of : List AbsState → NumberedStart → Columns.Start
start_of states (starts.In mode after) = Columns.In mode
start_of states (starts.By going) = Columns.By (going_of states going)

-- the number is that of the state in which the mode starts
pub record IsMode (plant : PlantData) (states : List AbsState) (mode after : ℕ) : Type 0 where
  pub within : after < length states
  pub is : state_at states after ≡ initial plant mode

abbrev pub IsStart : PlantData → List AbsState → NumberedStart → Type 0
IsStart plant states (starts.In mode after) = IsMode plant states mode after
IsStart plant states (starts.By going) = IsMove states going

-- the number is that of the state after the start
pub record IsAfter (plant : PlantData) (states : List AbsState) (start : NumberedStart) (after : ℕ) : Type 0 where
  pub within : after < length states
  pub is : state_at states after ≡ Columns.state_after plant (start_of states start)

-- ---- Start positions

-- these are the nodes, and they exist
pub record ArePositions (plant : PlantData) (nodes positions : List ℕ) : Type 0 where
  pub are : nodes ≡ positions
  pub exist : All (λ node. node < length plant.flow.nodes) nodes

-- ---- Columns

abbrev pub along_of : NumberedEdge → Columns.Along
along_of along = record { node = along.node; place = along.place; edge = along.edge }

abbrev pub column_of : List AbsState → NumberedColumn → Columns.Column
column_of states (numbered.Starts start) = Columns.Starts (start_of states start)
column_of states (numbered.Moves going) = Columns.Moves (going_of states going)
column_of states (numbered.Goes along) = Columns.Goes (along_of along)
column_of states (numbered.Begins block) = Columns.Begins block
column_of states (numbered.Stands node) = Columns.Stands node

abbrev pub IsColumn : PlantData → List AbsState → NumberedColumn → Type 0
IsColumn plant states (numbered.Starts start) = IsStart plant states start
IsColumn plant states (numbered.Moves going) = IsMove states going
IsColumn plant states column = Unit {0}
