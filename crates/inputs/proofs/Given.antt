-- What formats give is lawful.
use Rattle.std.proofs.Common.{ℕ, List, Result, Ok, inl, inr, subst}
use Rattle.std.specs.Prelude.{IfOk}
use Rattle.serde_json.specs.Data.{Data}
use Rattle.json_fields.specs.Files.{IsGiven}
use Rattle.wcet_atomic_blocks.specs.Plants.{PlantData}
use Rattle.abstract_sched.specs.declared.states.AbsState.{AbsState}
use Rattle.abstract_sched.specs.Fits.{AreLawful}
use Rattle.scheduler_moves.specs.Moves.{rules_of}
use Rattle.certificate.specs.declared.cert.Cert.{Cert}
use Rattle.certificate.specs.declared.fault.CertKind.TheVariants as cert_kinds
use Rattle.certificate.specs.declared.fault.StatesKind.TheVariants as states_kinds
use Rattle.certificate.specs.Certificate.{cert_in}
use Rattle.certificate.specs.Lawful.{IsLawful}
use Rattle.certificate.specs.States.{states_in}
use Rattle.certificate.proofs.Laws.{cert_in-lawful, states_in-lawful}

-- what holds of each record of a format holds of the one that bytes have
pub given_ok : {X K : Type 0} (P : X → Type 0) (no_value : K) (format : Data → Result X K) (bytes : List ℕ) (x : X)
    → ((d : Data) → IfOk (format d) P) → IsGiven no_value format bytes (Ok x) → P x
given_ok {X} {K} P no_value format bytes x each (inl given) = subst (λ (r : Result X K). IfOk r P) given.2 (each given.0)
given_ok P no_value format bytes x each (inr none) = absurd (cc (none.1))

pub cert_lawful : (plant : PlantData) (task : ℕ) (name bytes : List ℕ) (cert : Cert)
    → IsGiven cert_kinds.Json (cert_in (rules_of plant) task name) bytes (Ok cert) → IsLawful (rules_of plant) task cert
cert_lawful plant task name bytes cert given =
    given_ok (IsLawful (rules_of plant) task) cert_kinds.Json (cert_in (rules_of plant) task name) bytes cert (cert_in-lawful (rules_of plant) task name) given

pub states_lawful : (plant : PlantData) (bytes : List ℕ) (states : List AbsState)
    → IsGiven states_kinds.Json (states_in (rules_of plant)) bytes (Ok states) → AreLawful (rules_of plant) states
states_lawful plant bytes states given =
    given_ok (AreLawful (rules_of plant)) states_kinds.Json (states_in (rules_of plant)) bytes states (states_in-lawful (rules_of plant)) given
