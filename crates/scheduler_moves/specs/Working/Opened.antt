-- What the search finds in a list of states, one by one.
use Rattle.std.specs.Prelude.{◌≡◌, ℕ, ◌<◌, List, length, All, Contains, slice_get, Option, Some, None}
use Rattle.wcet_atomic_blocks.specs.Plants.{PlantData}
use Rattle.abstract_sched.specs.declared.states.AbsState.{AbsState}
use Rattle.scheduler_moves.specs.declared.closure.Closure.{Closure}
use Rattle.scheduler_moves.specs.declared.closure.Closure.TheVariants as closures
use Rattle.scheduler_moves.specs.declared.moves.Move.{Move}
use Rattle.scheduler_moves.specs.Closed.{MovesStay, StartsBelow, HoldsBefore, LacksInitial, IsClosure}

-- the first mode whose start isn't listed
abbrev pub IsMissing : PlantData → List AbsState → Option ℕ → Type 0
IsMissing plant states (Some mode) = LacksInitial plant states mode
IsMissing plant states None = StartsBelow plant states (length plant.system.modes)

-- the first move to a state that isn't listed
pub record LacksAt (states : List AbsState) (moves : List Move) (number : ℕ) : Type 0 where
  pub move : Move
  pub at : slice_get moves number ≡ Some move
  pub lacks : Contains states move.to → ⊥
  pub first : (earlier : ℕ) (other : Move) → earlier < number → slice_get moves earlier ≡ Some other → Contains states other.to

abbrev pub IsFirstLacking : List AbsState → List Move → Option ℕ → Type 0
IsFirstLacking states moves (Some number) = LacksAt states moves number
IsFirstLacking states moves None = All (λ move. Contains states move.to) moves

-- the same, as the closure of a list whose state of this number has these moves
abbrev pub IsMissingMove : List AbsState → List Move → ℕ → Option Closure → Type 0
IsMissingMove states moves number None = All (λ move. Contains states move.to) moves
IsMissingMove states moves number (Some (closures.Missing state transition)) = (state ≡ number) × LacksAt states moves transition
IsMissingMove states moves number (Some closure) = ⊥

-- the state of this number
abbrev pub IsState : List AbsState → ℕ → AbsState → Type 0
IsState states number state = slice_get states number ≡ Some state

-- nothing fails in the state of this number, or this is what fails, if nothing does before
abbrev pub IsFoundAt : PlantData → List AbsState → ℕ → Option Closure → Type 0
IsFoundAt plant states number None = (state : AbsState) → IsState states number state → MovesStay plant states state
IsFoundAt plant states number (Some closure) = HoldsBefore plant states number → IsClosure plant states closure
