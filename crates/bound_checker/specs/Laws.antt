-- What good certificates mean, and that each certificate has one verdict.
use Rattle.std.specs.Prelude.{◌≡◌, ℕ, ◌<◌, true, length}
use Rattle.listed.specs.Lists.{differ}
use Rattle.wcet_atomic_blocks.specs.Plants.{PlantData, IsPlant}
use Rattle.abstract_sched.specs.States.{same_state}
use Rattle.activation_windows.specs.Bounds.{BoundsActivations}
use Rattle.certificate.specs.declared.cert.Cert.{Cert}
use Rattle.certificate.specs.declared.verdict.Verdict.{Verdict}
use Rattle.bound_checker.specs.Good.{IsGood, IsVerdict}

-- A good certificate whose states differ bounds every activation of the task in every declared run, in cycles.
abbrev pub GoodCertificatesBound : Type 0
GoodCertificatesBound = (plant : PlantData) (task : ℕ) (cert : Cert)
    → IsPlant plant → differ same_state cert.states ≡ true → task < length plant.system.tasks
    → IsGood plant task cert → BoundsActivations plant task cert.bound

-- No certificate has two verdicts. So one that has a first condition that fails isn't good.
abbrev pub HaveOneVerdict : Type 0
HaveOneVerdict = (plant : PlantData) (task : ℕ) (cert : Cert) (one other : Verdict)
    → IsVerdict plant task cert one → IsVerdict plant task cert other → one ≡ other
