-- Moves between listed states by their places in the list.
use Rattle.std.specs.Prelude.{◌≡◌, ℕ, ◌<◌, List, length, map, slice_get, Option, Some}
use Rattle.std.specs.List.{AllByRecursion}
use Rattle.wcet_atomic_blocks.specs.Plants.{PlantData}
use Rattle.abstract_sched.specs.declared.states.AbsState.{AbsState}
use Rattle.scheduler_moves.specs.declared.moves.Move.{Move}
use Rattle.row_build.specs.Columns.{Going, goings_from}
use Rattle.row_build.specs.Working.Numbered.{AreNumbers, state_at}
use Rattle.trace_check.specs.declared.tables.Step.{Step}
use Rattle.trace_check.specs.declared.tables.Tables.{Tables}

-- the move that a step of the state of this number is
abbrev pub going_of : List AbsState → ℕ → Step → Going
going_of states from step = record { from = state_at states from; move = record { label = step.label; to = state_at states step.to } }

-- the steps of the state of this number are its moves
pub record AreSteps (plant : PlantData) (states : List AbsState) (from : ℕ) (steps : List Step) : Type 0 where
  pub are : map (going_of states from) steps ≡ goings_from plant (state_at states from)
  pub listed : AllByRecursion (λ step. step.to < length states) steps

-- the steps are these moves
pub record AreMade (states : List AbsState) (moves : List Move) (steps : List Step) : Type 0 where
  pub are : map (λ step. record { label = step.label; to = state_at states step.to }) steps ≡ moves
  pub listed : AllByRecursion (λ step. step.to < length states) steps

-- the steps that are there are right
pub record AreRows (plant : PlantData) (states : List AbsState) (rows : List (Option (List Step))) : Type 0 where
  pub count : length rows ≡ length states
  pub each : (number : ℕ) (steps : List Step) → slice_get rows number ≡ Some (Some steps) → AreSteps plant states number steps

pub record AreTables (plant : PlantData) (states : List AbsState) (tables : Tables) : Type 0 where
  pub numbers : AreNumbers tables.numbers states (length states)
  pub rows : AreRows plant states tables.rows.items

-- the steps of the state of this number are there
abbrev pub HasRow : Tables → ℕ → Type 0
HasRow tables number = (steps : List Step) × (slice_get tables.rows.items number ≡ Some (Some steps))
