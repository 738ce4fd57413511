-- The greatest value of small rows is a bound that a certificate can hold.
use Rattle.std.specs.Prelude.{◌≡◌, true, ℕ, List, ℤ, pos, ◌≤ℤ◌, All}
use Rattle.listed.specs.Lists.{differ}
use Rattle.whole_rows.specs.Rows.{RowsData}
use Rattle.whole_rows.specs.Duals.{HasSmallSizes}
use Rattle.whole_simplex.specs.Answers.{IsOptimum}
use Rattle.wcet_atomic_blocks.specs.Plants.{PlantData, IsPlant}
use Rattle.abstract_sched.specs.declared.states.AbsState.{AbsState}
use Rattle.abstract_sched.specs.States.{same_state}
use Rattle.row_build.specs.Rows.{rows_of}
use Rattle.bound_solver.specs.Bounds.{IsWithinLimits}

-- whatever the rows, where no right side is negative
abbrev pub OptimaAreWithinLimits : Type 0
OptimaAreWithinLimits = (d : RowsData) (multipliers : List ℤ) (denominator bound : ℤ)
    → HasSmallSizes d → All (λ right. pos 0 ≤ℤ right) d.rights → IsOptimum d multipliers denominator bound
    → IsWithinLimits bound

-- and those of a task, over states that differ
abbrev pub BoundsAreWithinLimits : Type 0
BoundsAreWithinLimits = (plant : PlantData) (states : List AbsState) (task : ℕ) (multipliers : List ℤ) (denominator bound : ℤ)
    → IsPlant plant → differ same_state states ≡ true → IsOptimum (rows_of plant states task) multipliers denominator bound
    → IsWithinLimits bound
