-- Which certificates are within their limits.
use Rattle.std.specs.Prelude.{◌≡◌, ℕ, ◌^◌, ◌<◌}
use Rattle.std.specs.List.{AllByRecursion}
use Rattle.abstract_sched.specs.Fits.{AreLawful}
use Rattle.abstract_sched.specs.declared.rules.StateRules.{StateRules}
use Rattle.certificate.specs.declared.cert.Cert.{Cert}

-- a certificate for the task that is within its limits
pub record IsLawful (rules : StateRules) (task : ℕ) (cert : Cert) : Type 0 where
  pub for_task : cert.task ≡ task
  pub bound : cert.bound < 2 ^ 120
  pub denominator : (0 < cert.denominator) × (cert.denominator < 2 ^ 80)
  pub multipliers : AllByRecursion (λ m. m < 2 ^ 80) cert.multipliers
  pub states : AreLawful rules cert.states
