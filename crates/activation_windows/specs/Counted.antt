-- That what a window uses meets the rows.
use Rattle.std.specs.Prelude.{◌≡◌, true, ℕ, ◌-◌, ◌≤◌, ◌<◌, List, [], ◌∷◌, All, Contains, length, Some, option_map, ℤ, pos, ◌+ℤ◌, ◌≤ℤ◌, sum_by}
use Rattle.osek_machine.specs.State.{MachineState}
use Rattle.osek_machine.specs.Events.{Event, duration}
use Rattle.osek_machine.specs.Activations.{active_since}
use Rattle.osek_machine.specs.Declarations.{IsDeclared}
use Rattle.wcet_atomic_blocks.specs.Plants.{PlantData}
use Rattle.abstract_sched.specs.declared.states.AbsState.{AbsState}
use Rattle.abstract_sched.specs.States.{same_state}
use Rattle.listed.specs.Lists.{differ}
use Rattle.shadow_runs.specs.Covering.{IsCase}
use Rattle.row_build.specs.Columns.{Column, columns, cost}
use Rattle.row_build.specs.Families
use Rattle.activation_windows.specs.Windows.{open_window, closed_uses}

-- A declared run over a closed list of states, each of them listed once, and a task.
pub record IsDeclaredCase (plant : PlantData) (states : List AbsState) (task mode : ℕ) (events : List Event) (state : MachineState) : Type 0 where
  pub of : IsCase plant states mode events state
  pub declared : IsDeclared plant.image plant.system plant.timing events
  pub once : differ same_state states ≡ true
  pub exists : task < length plant.system.tasks

-- the left side of a row on what is used
abbrev pub left_side : (Column → ℤ) → List Column → ℤ
left_side factor [] = pos 0
left_side factor (column ∷ columns) = factor column +ℤ left_side factor columns

abbrev pub Meets : List Column → Families.Row → Type 0
Meets uses row = left_side row.factor uses ≤ℤ pos row.right

-- what an open window has used, or one that the newest step closed; and the moment at which it opened
pub data IsUsed (plant : PlantData) (task mode : ℕ) : List Event → List Column → ℕ → Type 0 where
  while_open : (events : List Event) (uses : List Column) (since : ℕ)
      → option_map (λ window. window.uses) (open_window plant task mode events) ≡ Some uses
      → active_since plant.system mode task events ≡ Some since → IsUsed plant task mode events uses since
  closed_now : (event : Event) (earlier : List Event) (uses : List Column) (since : ℕ)
      → closed_uses plant task mode event earlier ≡ Some uses
      → active_since plant.system mode task earlier ≡ Some since → IsUsed plant task mode (event ∷ earlier) uses since

-- Each use is a column of the rows.
abbrev pub UsesAreColumns : Type 0
UsesAreColumns = (plant : PlantData) (states : List AbsState) (task mode : ℕ) (events : List Event) (state : MachineState) (uses : List Column) (since : ℕ)
    → IsDeclaredCase plant states task mode events state → IsUsed plant task mode events uses since
    → All (λ column. Contains (columns plant states task) column) uses

-- An activation lasts no longer than what its uses cost.
abbrev pub UsesCoverTime : Type 0
UsesCoverTime = (plant : PlantData) (states : List AbsState) (task mode : ℕ) (events : List Event) (state : MachineState) (uses : List Column) (since : ℕ)
    → IsDeclaredCase plant states task mode events state → IsUsed plant task mode events uses since
    → duration events - since ≤ sum_by (cost plant) uses

-- All rows of a family are met.
abbrev pub MeetsFamily : (PlantData → List AbsState → ℕ → List Families.Row) → Type 0
MeetsFamily family = (plant : PlantData) (states : List AbsState) (task mode : ℕ) (events : List Event) (state : MachineState) (uses : List Column) (since : ℕ)
    → IsDeclaredCase plant states task mode events state → IsUsed plant task mode events uses since
    → All (Meets uses) (family plant states task)

abbrev pub MeetsFirst : Type 0
MeetsFirst = MeetsFamily (λ plant states task. Families.one_start ∷ [])

abbrev pub MeetsLeaving : Type 0
MeetsLeaving = MeetsFamily Families.leaving

abbrev pub MeetsPassing : Type 0
MeetsPassing = MeetsFamily (λ plant states task. Families.passing plant)

abbrev pub MeetsStanding : Type 0
MeetsStanding = MeetsFamily Families.standing

abbrev pub MeetsBeginning : Type 0
MeetsBeginning = MeetsFamily (λ plant states task. Families.beginning plant task)

abbrev pub MeetsGoingRound : Type 0
MeetsGoingRound = MeetsFamily (λ plant states task. Families.going_round plant)

abbrev pub MeetsArriving : Type 0
MeetsArriving = MeetsFamily (λ plant states task. Families.arriving plant)
