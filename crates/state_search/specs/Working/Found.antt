-- States that were found so far.
use Rattle.std.specs.Prelude.{◌≡◌, ℕ, ◌<◌, true, List, ◌++◌, ◌+◌, All, Contains}
use Rattle.std.specs.BTreeSet.{BTreeSet}
use Rattle.listed.specs.declared.fault.Fault.{Fault}
use Rattle.listed.specs.declared.fault.Fault.TheVariants.{Kind, Memory}
use Rattle.listed.specs.Lists.{differ}
use Rattle.wcet_atomic_blocks.specs.Plants.{PlantData}
use Rattle.abstract_sched.specs.declared.states.AbsState.{AbsState}
use Rattle.abstract_sched.specs.States.{same_state}
use Rattle.scheduler_moves.specs.declared.moves.Misuse.{Misuse}
use Rattle.scheduler_moves.specs.declared.moves.Move.{Move}
use Rattle.scheduler_moves.specs.Moves.{initial}
use Rattle.scheduler_moves.specs.Working.Listing.{AreIn}
use Rattle.state_search.specs.declared.fault.SearchKind.{SearchKind}
use Rattle.state_search.specs.declared.fault.SearchKind.TheVariants as kinds
use Rattle.state_search.specs.Reached.{IsReached}
use Rattle.state_search.specs.Searching.{SearchData}

-- the states of a list, each once, are those that are found in the set
pub record AreFound (set : BTreeSet AbsState) (states : List AbsState) : Type 0 where
  pub members : AreIn set states
  pub once : differ same_state states ≡ true

-- with a state, which stands last if it is new
pub record Adds (state : AbsState) (before after : SearchData) : Type 0 where
  pub more : List AbsState
  pub is : after.states ≡ before.states ++ more
  pub only : All (λ other. other ≡ state) more
  pub has : Contains after.states state
  pub done : after.done ≡ before.done

-- reached states, with those in which the modes up to one start
pub record HasStarts (plant : PlantData) (end : ℕ) (search : SearchData) : Type 0 where
  pub reached : All (IsReached plant) search.states
  pub starts : (mode : ℕ) → mode < end → Contains search.states (initial plant mode)
  pub done : search.done ≡ 0

-- a move leads there
pub record IsTargetOf (moves : List Move) (state : AbsState) : Type 0 where
  pub move : Move
  pub made : Contains moves move
  pub to : move.to ≡ state

-- with the states after these moves
pub record GrowsBy (moves : List Move) (before after : SearchData) : Type 0 where
  pub more : List AbsState
  pub is : after.states ≡ before.states ++ more
  pub are : All (IsTargetOf moves) more
  pub has : (move : Move) → Contains moves move → Contains after.states move.to
  pub done : after.done ≡ before.done

-- the same, and one more state is done
pub record IsLeftAlong (moves : List Move) (before after : SearchData) : Type 0 where
  pub grown : SearchData
  pub grows : GrowsBy moves before grown
  pub is : after ≡ record { states = grown.states; done = grown.done + 1 }
  pub once : differ same_state after.states ≡ true

-- the misuse of a state, or want of memory
abbrev pub TellsMisuse : AbsState → Misuse → Fault SearchKind → Type 0
TellsMisuse state misuse (Kind kind) = kind ≡ kinds.Misuse state misuse
TellsMisuse state misuse Memory = Unit {0}
