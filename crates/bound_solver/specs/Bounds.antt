-- The bound of a task: the rows of its task, squeezed, have an outcome, and what that says of the full rows is lifted.
use Rattle.std.specs.Prelude.{ℕ, ◌^◌, List, [], ◌∷◌, length, ℤ, pos, ◌≤ℤ◌, ◌<ℤ◌, Option, Result, Ok, Err}
use Rattle.whole_rows.specs.Rows.{RowsData}
use Rattle.whole_simplex.specs.Outcome.{Outcome, outcome_of, Greatest, LargeMultiplier, Direction}
use Rattle.row_squeeze.specs.declared.Link.{Link}
use Rattle.row_squeeze.specs.Chains.{chain_places}
use Rattle.row_squeeze.specs.Lift.{lifted_of, spread}
use Rattle.row_squeeze.specs.Squeezed.{squeezed_of}
use Rattle.wcet_atomic_blocks.specs.Plants.{PlantData}
use Rattle.abstract_sched.specs.declared.states.AbsState.{AbsState}
use Rattle.row_build.specs.Links.{links_of}
use Rattle.row_build.specs.Rows.{rows_of}

-- the rows that are solved: those of the task, with each chain of edges made one column
abbrev pub solved_rows : PlantData → List AbsState → ℕ → RowsData
solved_rows plant states task = squeezed_of (rows_of plant states task) (links_of plant states task)

-- ---- Lifting

-- the optimum with the multipliers of the full rows, unless one of them is too large
abbrev pub lifted_optimum : ℕ → ℤ → ℤ → Result (List ℤ) ℤ → Outcome
lifted_optimum number denominator bound (Ok multipliers) = Greatest number multipliers denominator bound
lifted_optimum number denominator bound (Err value) = LargeMultiplier (value ∷ [])

-- what the outcome of the squeezed rows says of the full ones: multipliers and rays are lifted
abbrev pub lifted_outcome : RowsData → List (Option Link) → Outcome → Outcome
lifted_outcome full links (Greatest number multipliers denominator bound) =
    lifted_optimum number denominator bound (lifted_of full links denominator multipliers)
lifted_outcome full links (Direction ray) = Direction (spread (chain_places (length full.costs) links) ray)
lifted_outcome full links outcome = outcome

-- ---- Bounds

-- the outcome with at most so many pivots
abbrev pub bound_outcome : PlantData → List AbsState → ℕ → ℕ → Outcome
bound_outcome plant states task pivots =
    lifted_outcome (rows_of plant states task) (links_of plant states task) (outcome_of (solved_rows plant states task) pivots)

-- a bound that a certificate can hold, in cycles
abbrev pub IsWithinLimits : ℤ → Type 0
IsWithinLimits bound = (pos 0 ≤ℤ bound) × (bound <ℤ pos (2 ^ 120))
