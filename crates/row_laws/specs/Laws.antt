-- What holds of the rows of every task.
use Rattle.std.specs.Prelude.{◌≡◌, ℕ, true, List}
use Rattle.listed.specs.Lists.{differ}
use Rattle.whole_rows.specs.Duals.{HasSmallSizes}
use Rattle.wcet_atomic_blocks.specs.Plants.{PlantData, IsPlant}
use Rattle.abstract_sched.specs.declared.states.AbsState.{AbsState}
use Rattle.abstract_sched.specs.States.{same_state}
use Rattle.row_squeeze.specs.Links.{AreLinks}
use Rattle.row_build.specs.Links.{links_of}
use Rattle.row_build.specs.Rows.{rows_of}

-- No number of the rows of a task is large, however many states are listed.
abbrev pub RowsAreSmall : Type 0
RowsAreSmall = (plant : PlantData) (states : List AbsState) (task : ℕ)
    → IsPlant plant → differ same_state states ≡ true → HasSmallSizes (rows_of plant states task)

-- The links of a task's rows join its columns to chains.
abbrev pub LinksJoinColumns : Type 0
LinksJoinColumns = (plant : PlantData) (states : List AbsState) (task : ℕ)
    → IsPlant plant → AreLinks (rows_of plant states task) (links_of plant states task)
