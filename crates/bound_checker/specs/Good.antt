-- Good certificates: the listed states are closed, and the multipliers are good for the rows over them. Else there is a
-- first condition that fails, in this order: the states in which modes start, then state by state a misuse before a state
-- that is missing, the number of multipliers, the columns in order, the bound.
use Rattle.std.specs.Prelude.{ℕ}
use Rattle.whole_rows.specs.Duals.{AreGood, IsFirstFailing}
use Rattle.whole_rows.specs.declared.DualVerdict.{DualVerdict}
use Rattle.whole_rows.specs.declared.DualVerdict.TheVariants as duals
use Rattle.wcet_atomic_blocks.specs.Plants.{PlantData}
use Rattle.scheduler_moves.specs.Closed.{IsClosed, LacksInitial, LacksMove, HasMisuse}
use Rattle.row_build.specs.Rows.{rows_of}
use Rattle.certificate.specs.declared.cert.Cert.{Cert}
use Rattle.certificate.specs.declared.verdict.Verdict.{Verdict}
use Rattle.certificate.specs.declared.verdict.Verdict.TheVariants.{Yes, No}
use Rattle.certificate.specs.declared.verdict.Why.{Why}
use Rattle.certificate.specs.declared.verdict.Why.TheVariants.{MissingInitial, Missing, Misuse, Count, Column, Bound}

pub record IsGood (plant : PlantData) (task : ℕ) (cert : Cert) : Type 0 where
  pub closed : IsClosed plant cert.states
  pub good : AreGood (rows_of plant cert.states task) cert.multipliers cert.denominator cert.bound

-- ---- The first condition that fails

-- the states are closed, and this is the first that fails of the multipliers
pub record FailsByRows (plant : PlantData) (task : ℕ) (cert : Cert) (why : DualVerdict) : Type 0 where
  pub closed : IsClosed plant cert.states
  pub fails : IsFirstFailing (rows_of plant cert.states task) cert.multipliers cert.denominator cert.bound why

abbrev pub FailsFirst : PlantData → ℕ → Cert → Why → Type 0
FailsFirst plant task cert (MissingInitial mode) = LacksInitial plant cert.states mode
FailsFirst plant task cert (Misuse state code) = HasMisuse plant cert.states state code
FailsFirst plant task cert (Missing state transition) = LacksMove plant cert.states state transition
FailsFirst plant task cert (Count given wanted) = FailsByRows plant task cert (duals.Count given wanted)
FailsFirst plant task cert (Column j) = FailsByRows plant task cert (duals.Column j)
FailsFirst plant task cert Bound = FailsByRows plant task cert duals.Bound

abbrev pub IsVerdict : PlantData → ℕ → Cert → Verdict → Type 0
IsVerdict plant task cert Yes = IsGood plant task cert
IsVerdict plant task cert (No why) = FailsFirst plant task cert why
