-- Lists of scheduler states that are closed under the moves.
use Rattle.std.specs.Prelude.{◌≡◌, ℕ, ◌<◌, List, length, All, Contains, slice_get, Some, Result, Ok, Err}
use Rattle.wcet_atomic_blocks.specs.Plants.{PlantData}
use Rattle.abstract_sched.specs.declared.states.AbsState.{AbsState}
use Rattle.scheduler_moves.specs.declared.closure.Closure.{Closure}
use Rattle.scheduler_moves.specs.declared.closure.Closure.TheVariants as closures
use Rattle.scheduler_moves.specs.declared.moves.Misuse.{Misuse}
use Rattle.scheduler_moves.specs.declared.moves.Move.{Move}
use Rattle.scheduler_moves.specs.Moves.{initial, successors}

-- ---- Closed lists

-- the state after each move is listed, and no rule of a service is broken
abbrev pub AreListed : List AbsState → Result (List Move) Misuse → Type 0
AreListed states (Ok moves) = All (λ move. Contains states move.to) moves
AreListed states (Err misuse) = ⊥

abbrev pub MovesStay : PlantData → List AbsState → AbsState → Type 0
MovesStay plant states state = AreListed states (successors plant state)

-- The list has the states in which modes start and, with each state, those after its moves.
pub record IsClosed (plant : PlantData) (states : List AbsState) : Type 0 where
  pub starts : (mode : ℕ) → mode < length plant.system.modes → Contains states (initial plant mode)
  pub stays : (state : AbsState) → Contains states state → MovesStay plant states state

-- ---- The first that fails

-- the states in which the modes below this one start are listed
abbrev pub StartsBelow : PlantData → List AbsState → ℕ → Type 0
StartsBelow plant states count = (mode : ℕ) → mode < count → Contains states (initial plant mode)

-- all modes, and the states before the one of this place, hold nothing that fails
pub record HoldsBefore (plant : PlantData) (states : List AbsState) (number : ℕ) : Type 0 where
  pub starts : StartsBelow plant states (length plant.system.modes)
  pub stays : (earlier : ℕ) (state : AbsState) → earlier < number → slice_get states earlier ≡ Some state → MovesStay plant states state

pub record LacksInitial (plant : PlantData) (states : List AbsState) (mode : ℕ) : Type 0 where
  pub exists : mode < length plant.system.modes
  pub lacks : Contains states (initial plant mode) → ⊥
  pub before : StartsBelow plant states mode

pub record HasMisuse (plant : PlantData) (states : List AbsState) (number code : ℕ) : Type 0 where
  pub state : AbsState
  pub there : slice_get states number ≡ Some state
  pub misuse : Misuse
  pub misused : successors plant state ≡ Err misuse
  pub code_is : misuse.code ≡ code
  pub before : HoldsBefore plant states number

pub record LacksMove (plant : PlantData) (states : List AbsState) (number transition : ℕ) : Type 0 where
  pub state : AbsState
  pub there : slice_get states number ≡ Some state
  pub moves : List Move
  pub moved : successors plant state ≡ Ok moves
  pub move : Move
  pub at : slice_get moves transition ≡ Some move
  pub lacks : Contains states move.to → ⊥
  pub first : (earlier : ℕ) (other : Move) → earlier < transition → slice_get moves earlier ≡ Some other → Contains states other.to
  pub before : HoldsBefore plant states number

-- Whether the list is closed, or else the first that fails.
abbrev pub IsClosure : PlantData → List AbsState → Closure → Type 0
IsClosure plant states closures.Yes = IsClosed plant states
IsClosure plant states (closures.MissingInitial mode) = LacksInitial plant states mode
IsClosure plant states (closures.Misuse number code) = HasMisuse plant states number code
IsClosure plant states (closures.Missing number transition) = LacksMove plant states number transition
