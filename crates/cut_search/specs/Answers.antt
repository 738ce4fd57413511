-- The answers of the search that say what it comes to.
use Rattle.std.specs.Prelude.{◌≡◌, ℕ, Result, Ok, Err}
use Rattle.whole_rows.specs.Rows.{RowsData}
use Rattle.whole_simplex.specs.Answers.{IsUnbounded}
use Rattle.whole_simplex.specs.Outcome.{Direction, SaysOutcome, outcome_of}
use Rattle.whole_simplex.specs.declared.SolveFault.TheVariants as solving
use Rattle.split_trees.specs.Tree.{Tree}
use Rattle.cut_search.specs.declared.fault.SplitFault.{SplitFault}
use Rattle.cut_search.specs.declared.fault.SplitFault.TheVariants as faults
use Rattle.cut_search.specs.Search.{Ending, Cuts, NoTree, Refused, pivot_limit}

-- The answer is the tree, or why there is none, or want of memory. Where the rows of a node have no optimum, it is an
-- answer of `solve` that says their outcome; its want of memory is want of memory here.
abbrev pub SaysSearch : ℕ → Result Tree Ending → Result Tree SplitFault → Type 0
SaysSearch cuts comes_to (Err faults.Memory) = Unit {0}
SaysSearch cuts comes_to (Err (faults.Solve solving.Memory)) = ⊥
SaysSearch cuts (Ok tree) (Ok found) = found ≡ tree
SaysSearch cuts (Err NoTree) (Err faults.NoTree) = Unit {0}
SaysSearch cuts (Err Cuts) (Err (faults.Cuts count)) = count ≡ cuts
SaysSearch cuts (Err (Refused rows outcome)) (Err (faults.Solve fault)) = SaysOutcome rows pivot_limit outcome (Err fault)
SaysSearch cuts comes_to answer = ⊥

-- where a ray is answered, it is one of these rows themselves
abbrev pub IsRayOf : RowsData → SplitFault → Type 0
IsRayOf rows (faults.Solve (solving.Unbounded ray)) = (outcome_of rows pivot_limit ≡ Direction ray) × IsUnbounded rows ray
IsRayOf rows fault = Unit {0}
