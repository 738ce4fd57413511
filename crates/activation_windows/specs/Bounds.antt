-- The bound: the counts of what an activation uses are a point of the rows of its task. So multipliers that are good for
-- the rows bound every activation in every declared run, ended or not, and so does the greatest value of the rows.
use Rattle.std.specs.Prelude.{◌≡◌, true, ℕ, ◌+◌, ◌-◌, ◌≤◌, ◌<◌, List, [], ◌∷◌, Contains, length, replicate, slice_get, slice_set, slice_index_or, Some, pos, ◌≤ℤ◌}
use Rattle.listed.specs.Lists.{differ}
use Rattle.whole_rows.specs.Duals.{AreGood}
use Rattle.whole_rows.specs.Rows.{cost_of}
use Rattle.whole_rows.specs.Greatest.{MeetsRows, IsGreatest}
use Rattle.osek_machine.specs.Activations.{Activation, activations}
use Rattle.osek_machine.specs.Declarations.{IsDeclared}
use Rattle.osek_machine.specs.Events.{Event, duration}
use Rattle.osek_machine.specs.Runs.{IsRun}
use Rattle.osek_machine.specs.State.{MachineState}
use Rattle.wcet_atomic_blocks.specs.Plants.{PlantData, IsPlant}
use Rattle.abstract_sched.specs.declared.states.AbsState.{AbsState}
use Rattle.abstract_sched.specs.States.{same_state}
use Rattle.scheduler_moves.specs.Closed.{IsClosed}
use Rattle.row_build.specs.Columns.{Column, columns}
use Rattle.row_build.specs.Rows.{rows_of}
use Rattle.activation_windows.specs.Counted.{IsDeclaredCase, IsUsed}

-- for each column how often it is used, where each use stands at a place of all columns
abbrev pub AreCounts : List Column → List Column → List ℕ → Type 0
AreCounts all [] counts = counts ≡ replicate (length all) 0
AreCounts all (column ∷ uses) counts =
    (place : ℕ) × (before : List ℕ) × (slice_get all place ≡ Some column) × AreCounts all uses before
    × (counts ≡ slice_set before place (slice_index_or before place 0 + 1))

-- The counts of the uses meet every row, and cost no less than the activation lasts.
pub record ArePoint (plant : PlantData) (states : List AbsState) (task : ℕ) (uses : List Column) (cycles : ℕ) : Type 0 where
  pub counts : List ℕ
  pub are : AreCounts (columns plant states task) uses counts
  pub meets : MeetsRows (rows_of plant states task) counts
  pub covers : pos cycles ≤ℤ cost_of (rows_of plant states task) counts

abbrev pub UsesArePoints : Type 0
UsesArePoints = (plant : PlantData) (states : List AbsState) (task mode : ℕ) (events : List Event) (state : MachineState) (uses : List Column) (since : ℕ)
    → IsDeclaredCase plant states task mode events state → IsUsed plant task mode events uses since
    → ArePoint plant states task uses (duration events - since)

-- In every run of the machine that keeps what is declared, no activation of the task lasts longer, ended or not.
abbrev pub BoundsActivations : PlantData → ℕ → ℕ → Type 0
BoundsActivations plant task bound = (mode : ℕ) (events : List Event) (state : MachineState) (activation : Activation)
    → IsRun plant.image plant.system mode events state → IsDeclared plant.image plant.system plant.timing events
    → Contains (activations plant.system mode events) activation → activation.task ≡ task → activation.cycles ≤ bound

-- A plant, a closed list of its states, each listed once, and a task.
pub record AreFor (plant : PlantData) (states : List AbsState) (task : ℕ) : Type 0 where
  pub belongs : IsPlant plant
  pub closed : IsClosed plant states
  pub once : differ same_state states ≡ true
  pub exists : task < length plant.system.tasks

abbrev pub GoodMultipliersBound : Type 0
GoodMultipliersBound = (plant : PlantData) (states : List AbsState) (task : ℕ) (multipliers : List ℕ) (denominator bound : ℕ)
    → AreFor plant states task → AreGood (rows_of plant states task) multipliers denominator bound → BoundsActivations plant task bound

abbrev pub GreatestValueBounds : Type 0
GreatestValueBounds = (plant : PlantData) (states : List AbsState) (task bound : ℕ)
    → AreFor plant states task → IsGreatest (rows_of plant states task) (pos bound) → BoundsActivations plant task bound
