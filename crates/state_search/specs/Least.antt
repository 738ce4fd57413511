-- The least closed list of a system's states, and why there is none within a limit.
use Rattle.std.specs.Prelude.{◌≡◌, ℕ, ◌<◌, ◌≤◌, true, List, length, All, Result, Ok, Err}
use Rattle.listed.specs.declared.fault.Fault.{Fault}
use Rattle.listed.specs.declared.fault.Fault.TheVariants.{Kind, Memory}
use Rattle.listed.specs.Lists.{differ}
use Rattle.wcet_atomic_blocks.specs.Plants.{PlantData}
use Rattle.abstract_sched.specs.declared.states.AbsState.{AbsState}
use Rattle.abstract_sched.specs.States.{same_state}
use Rattle.scheduler_moves.specs.declared.moves.Misuse.{Misuse}
use Rattle.scheduler_moves.specs.Closed.{IsClosed}
use Rattle.scheduler_moves.specs.Moves.{successors}
use Rattle.state_search.specs.declared.fault.SearchKind.{SearchKind}
use Rattle.state_search.specs.declared.fault.SearchKind.TheVariants as kinds
use Rattle.state_search.specs.Reached.{IsReached}

-- reached states, each once
pub record AreReached (plant : PlantData) (states : List AbsState) : Type 0 where
  pub reached : All (IsReached plant) states
  pub once : differ same_state states ≡ true

-- A closed list of reached states, each once: a closed list has all that are reached, so this one has no other states
-- than every closed list has.
pub record IsLeast (plant : PlantData) (states : List AbsState) : Type 0 where
  pub closed : IsClosed plant states
  pub are : AreReached plant states

-- the same, of so many states at most
pub record IsLeastWithin (plant : PlantData) (limit : ℕ) (states : List AbsState) : Type 0 where
  pub least : IsLeast plant states
  pub within : length states ≤ limit

-- more states are reached than the limit says
pub record ReachesMore (plant : PlantData) (limit : ℕ) : Type 0 where
  pub states : List AbsState
  pub are : AreReached plant states
  pub more : limit < length states

-- the state is reached, and its running context breaks a rule of a service; so no list is closed
pub record IsMisused (plant : PlantData) (state : AbsState) (misuse : Misuse) : Type 0 where
  pub reached : IsReached plant state
  pub misused : successors plant state ≡ Err misuse

-- why there is no closed list of so many states at most
abbrev pub IsCause : PlantData → ℕ → SearchKind → Type 0
IsCause plant limit kinds.Limit = ReachesMore plant limit
IsCause plant limit (kinds.Misuse state misuse) = IsMisused plant state misuse

-- The least closed list, or why there is none within the limit; want of memory is free.
abbrev pub Answers : PlantData → ℕ → Result (List AbsState) (Fault SearchKind) → Type 0
Answers plant limit (Ok states) = IsLeastWithin plant limit states
Answers plant limit (Err (Kind kind)) = IsCause plant limit kind
Answers plant limit (Err Memory) = Unit {0}
