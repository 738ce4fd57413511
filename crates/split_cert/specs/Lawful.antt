-- Which split certificates are within their limits.
use Rattle.std.specs.Prelude.{◌≡◌, ℕ, ◌^◌, ◌<◌}
use Rattle.abstract_sched.specs.Fits.{AreLawful}
use Rattle.abstract_sched.specs.declared.rules.StateRules.{StateRules}
use Rattle.split_trees.specs.Lawful.{IsLawfulTree}
use Rattle.split_cert.specs.declared.cert.SplitCert.{SplitCert}

-- a split certificate for the task that is within its limits
pub record IsLawful (rules : StateRules) (task : ℕ) (cert : SplitCert) : Type 0 where
  pub for_task : cert.task ≡ task
  pub bound : cert.bound < 2 ^ 120
  pub states : AreLawful rules cert.states
  pub tree : IsLawfulTree cert.tree
