-- A search for the least closed list, while it goes on.
use Rattle.std.specs.Prelude.{◌≡◌, ℕ, ◌+◌, ◌<◌, List, length, slice_get, Contains, Some, Result, Ok, Err}
use Rattle.listed.specs.declared.fault.Fault.{Fault}
use Rattle.listed.specs.declared.fault.Fault.TheVariants.{Kind, Memory}
use Rattle.wcet_atomic_blocks.specs.Plants.{PlantData}
use Rattle.abstract_sched.specs.declared.states.AbsState.{AbsState}
use Rattle.scheduler_moves.specs.Closed.{MovesStay}
use Rattle.scheduler_moves.specs.Moves.{initial}
use Rattle.state_search.specs.declared.fault.SearchKind.{SearchKind}
use Rattle.state_search.specs.Least.{AreReached, IsCause}

-- the states that were found, in that order, and how many of them were left along their moves
pub record SearchData : Type 0 where
  pub states : List AbsState
  pub done : ℕ

-- Reached states, with those in which modes start and with those to which the ones that are done lead.
pub record IsSearch (plant : PlantData) (search : SearchData) : Type 0 where
  pub are : AreReached plant search.states
  pub starts : (mode : ℕ) → mode < length plant.system.modes → Contains search.states (initial plant mode)
  pub stays : (place : ℕ) (state : AbsState) → place < search.done → slice_get search.states place ≡ Some state
      → MovesStay plant search.states state

-- one more state is done, or why no list is closed
pub record IsStep (plant : PlantData) (before after : SearchData) : Type 0 where
  pub search : IsSearch plant after
  pub done : after.done ≡ before.done + 1

abbrev pub Steps : PlantData → SearchData → Result SearchData (Fault SearchKind) → Type 0
Steps plant before (Ok after) = IsStep plant before after
Steps plant before (Err (Kind kind)) = (limit : ℕ) → IsCause plant limit kind
Steps plant before (Err Memory) = Unit {0}
