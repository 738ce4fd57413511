-- What the search for a split certificate of a task comes to: the search for a tree of cuts of its take columns, over the
-- rows of the task.
use Rattle.std.specs.Prelude.{◌≡◌, ℕ, List, Result, Ok, Err}
use Rattle.split_trees.specs.Tree.{Tree}
use Rattle.wcet_atomic_blocks.specs.Plants.{PlantData}
use Rattle.abstract_sched.specs.declared.states.AbsState.{AbsState}
use Rattle.row_build.specs.Rows.{rows_of}
use Rattle.cut_search.specs.Search.{Ending, search_over}
use Rattle.cut_search.specs.declared.fault.SplitFault.{SplitFault}
use Rattle.split_cert.specs.declared.cert.SplitCert.{SplitCert}
use Rattle.split_search.specs.Takes.{take_columns}

abbrev pub search_of : PlantData → List AbsState → ℕ → ℕ → ℕ → Result Tree Ending
search_of plant states task bound cuts = search_over (rows_of plant states task) (take_columns plant states task) bound cuts

-- the certificate is for the task and the bound, over these states
pub record IsFor (task bound : ℕ) (states : List AbsState) (cert : SplitCert) : Type 0 where
  pub task_is : cert.task ≡ task
  pub bound_is : cert.bound ≡ bound
  pub states_are : cert.states ≡ states

-- the answer, with the tree of its certificate
abbrev pub tree_of : Result SplitCert SplitFault → Result Tree SplitFault
tree_of (Ok cert) = Ok cert.tree
tree_of (Err fault) = Err fault
