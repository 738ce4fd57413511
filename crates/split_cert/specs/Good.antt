-- Good split certificates: the listed states are closed, and the tree of cuts is good for the rows over them and the bound.
-- Else there is a first condition that fails: of the states before those of the tree.
use Rattle.std.specs.Prelude.{ℕ, List}
use Rattle.whole_rows.specs.declared.DualVerdict.TheVariants as duals
use Rattle.wcet_atomic_blocks.specs.Plants.{PlantData}
use Rattle.abstract_sched.specs.declared.states.AbsState.{AbsState}
use Rattle.scheduler_moves.specs.Closed.{IsClosed, LacksInitial, LacksMove, HasMisuse}
use Rattle.row_build.specs.Rows.{rows_of}
use Rattle.certificate.specs.declared.verdict.Why.{Why}
use Rattle.certificate.specs.declared.verdict.Why.TheVariants.{MissingInitial, Missing, Misuse, Count, Column, Bound}
use Rattle.split_trees.specs.Good.{IsGoodTree, LacksColumn, HasBadLeaf}
use Rattle.split_cert.specs.declared.cert.SplitCert.{SplitCert}
use Rattle.split_cert.specs.declared.verdict.SplitVerdict.{SplitVerdict}
use Rattle.split_cert.specs.declared.verdict.SplitVerdict.TheVariants.{Yes, No}
use Rattle.split_cert.specs.declared.verdict.SplitWhy.{SplitWhy}
use Rattle.split_cert.specs.declared.verdict.SplitWhy.TheVariants as whys

pub record IsGoodSplit (plant : PlantData) (task : ℕ) (cert : SplitCert) : Type 0 where
  pub closed : IsClosed plant cert.states
  pub good : IsGoodTree (rows_of plant cert.states task) cert.bound cert.tree

-- ---- The first condition that fails

abbrev pub FailsByStates : PlantData → List AbsState → Why → Type 0
FailsByStates plant states (MissingInitial mode) = LacksInitial plant states mode
FailsByStates plant states (Misuse state code) = HasMisuse plant states state code
FailsByStates plant states (Missing state transition) = LacksMove plant states state transition
FailsByStates plant states (Count given wanted) = ⊥
FailsByStates plant states (Column column) = ⊥
FailsByStates plant states Bound = ⊥

-- a column that is cut isn't there, where the states are closed
pub record FailsByCut (plant : PlantData) (task : ℕ) (cert : SplitCert) (column : ℕ) : Type 0 where
  pub closed : IsClosed plant cert.states
  pub lacks : LacksColumn (rows_of plant cert.states task) cert.tree column

-- the leaf of this number is the first that isn't good, where the states are closed and each column is there
abbrev pub HasBad : PlantData → ℕ → SplitCert → ℕ → Why → Type 0
HasBad plant task cert leaf (MissingInitial mode) = ⊥
HasBad plant task cert leaf (Misuse state code) = ⊥
HasBad plant task cert leaf (Missing state transition) = ⊥
HasBad plant task cert leaf (Count given wanted) =
    HasBadLeaf (rows_of plant cert.states task) cert.bound cert.tree leaf (duals.Count given wanted)
HasBad plant task cert leaf (Column column) =
    HasBadLeaf (rows_of plant cert.states task) cert.bound cert.tree leaf (duals.Column column)
HasBad plant task cert leaf Bound = HasBadLeaf (rows_of plant cert.states task) cert.bound cert.tree leaf duals.Bound

pub record FailsByLeaf (plant : PlantData) (task : ℕ) (cert : SplitCert) (leaf : ℕ) (why : Why) : Type 0 where
  pub closed : IsClosed plant cert.states
  pub bad : HasBad plant task cert leaf why

abbrev pub FailsFirst : PlantData → ℕ → SplitCert → SplitWhy → Type 0
FailsFirst plant task cert (whys.States why) = FailsByStates plant cert.states why
FailsFirst plant task cert (whys.Cut column) = FailsByCut plant task cert column
FailsFirst plant task cert (whys.Leaf leaf why) = FailsByLeaf plant task cert leaf why

abbrev pub IsVerdict : PlantData → ℕ → SplitCert → SplitVerdict → Type 0
IsVerdict plant task cert Yes = IsGoodSplit plant task cert
IsVerdict plant task cert (No why) = FailsFirst plant task cert why
