-- What good split certificates mean, and that each split certificate has one verdict.
use Rattle.std.specs.Prelude.{◌≡◌, ℕ, ◌<◌, true, length}
use Rattle.listed.specs.Lists.{differ}
use Rattle.wcet_atomic_blocks.specs.Plants.{PlantData, IsPlant}
use Rattle.abstract_sched.specs.States.{same_state}
use Rattle.activation_windows.specs.Bounds.{BoundsActivations}
use Rattle.split_cert.specs.declared.cert.SplitCert.{SplitCert}
use Rattle.split_cert.specs.declared.verdict.SplitVerdict.{SplitVerdict}
use Rattle.split_cert.specs.Good.{IsGoodSplit, IsVerdict}

-- A good split certificate whose states differ bounds every activation of the task in every declared run, in cycles: how
-- often a window uses a column is a whole number, so at each cut it is on one side.
abbrev pub GoodSplitsBound : Type 0
GoodSplitsBound = (plant : PlantData) (task : ℕ) (cert : SplitCert)
    → IsPlant plant → differ same_state cert.states ≡ true → task < length plant.system.tasks
    → IsGoodSplit plant task cert → BoundsActivations plant task cert.bound

-- No split certificate has two verdicts. So one that has a first condition that fails isn't good.
abbrev pub HaveOneVerdict : Type 0
HaveOneVerdict = (plant : PlantData) (task : ℕ) (cert : SplitCert) (one other : SplitVerdict)
    → IsVerdict plant task cert one → IsVerdict plant task cert other → one ≡ other
