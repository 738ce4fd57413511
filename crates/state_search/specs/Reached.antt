-- The states that a system comes to.
use Rattle.std.specs.Prelude.{◌≡◌, ℕ, ◌<◌, List, length, Contains, Ok}
use Rattle.wcet_atomic_blocks.specs.Plants.{PlantData}
use Rattle.abstract_sched.specs.declared.states.AbsState.{AbsState}
use Rattle.scheduler_moves.specs.declared.moves.Move.{Move}
use Rattle.scheduler_moves.specs.Moves.{initial, successors}

-- a move of a state leads to the other; a state with a misuse has none
pub record LeadsTo (plant : PlantData) (before after : AbsState) : Type 0 where
  pub moves : List Move
  pub moved : successors plant before ≡ Ok moves
  pub move : Move
  pub made : Contains moves move
  pub to : move.to ≡ after

-- A state is reached where a mode starts in it, or where a reached state leads to it.
pub data IsReached (plant : PlantData) : AbsState → Type 0 where
  starts : (mode : ℕ) → mode < length plant.system.modes → IsReached plant (initial plant mode)
  leads : (before after : AbsState) → IsReached plant before → LeadsTo plant before after → IsReached plant after
