-- Lists of scheduler states and certificates as inputs, over a plant.
use Rattle.std.specs.Prelude.{◌≡◌, ℕ, List, codes, unwrap_or, slice_get, Option, Some, None, Result, Ok, Err}
use Rattle.json_fields.specs.Files.{IsGiven}
use Rattle.oil_model.specs.declared.system.System.{System}
use Rattle.wcet_atomic_blocks.specs.Plants.{PlantData}
use Rattle.abstract_sched.specs.declared.states.AbsState.{AbsState}
use Rattle.scheduler_moves.specs.declared.closure.Closure.{Closure}
use Rattle.scheduler_moves.specs.declared.closure.Closure.TheVariants as closures
use Rattle.scheduler_moves.specs.Closed.{IsClosed, IsClosure}
use Rattle.scheduler_moves.specs.Moves.{rules_of}
use Rattle.certificate.specs.declared.cert.Cert.{Cert}
use Rattle.certificate.specs.declared.fault.CertKind.{CertKind}
use Rattle.certificate.specs.declared.fault.CertKind.TheVariants as cert_kinds
use Rattle.certificate.specs.declared.fault.StatesKind.{StatesKind}
use Rattle.certificate.specs.declared.fault.StatesKind.TheVariants as states_kinds
use Rattle.certificate.specs.declared.verdict.Why.{Why}
use Rattle.certificate.specs.declared.verdict.Why.TheVariants.{MissingInitial, Missing, Misuse}
use Rattle.certificate.specs.Certificate.{cert_in}
use Rattle.certificate.specs.States.{states_in}
use Rattle.command_steps.specs.declared.halt.Refusal.{Refusal}
use Rattle.command_steps.specs.Steps.{Calls, Step, Judged, Then, File}
use Rattle.reports.specs.Verdicts.{no_refusal, cert_refusal, states_refusal}
use Rattle.inputs.specs.declared.subjects.Analysed.{Analysed}
use Rattle.inputs.specs.Inputs.{states_limit}

-- ---- a certificate for the task of this name

abbrev pub HasCertificate : Analysed → List ℕ → List ℕ → Result Cert Refusal → Type 0
HasCertificate analysed name bytes (Ok cert) = IsGiven cert_kinds.Json (cert_in (rules_of analysed.plant) analysed.task name) bytes (Ok cert)
HasCertificate analysed name bytes (Err refusal) =
    (kind : CertKind) × IsGiven cert_kinds.Json (cert_in (rules_of analysed.plant) analysed.task name) bytes (Err kind)
    × (refusal ≡ cert_refusal kind)

abbrev pub CertificateFile : {F : Type 0} → Calls F → List ℕ → List ℕ → Analysed → Step F Cert
CertificateFile calls certificate name analysed = File calls certificate states_limit (HasCertificate analysed name)

-- ---- a list of states

abbrev pub HasStates : PlantData → List ℕ → Result (List AbsState) Refusal → Type 0
HasStates plant bytes (Ok listed) = IsGiven states_kinds.Json (states_in (rules_of plant)) bytes (Ok listed)
HasStates plant bytes (Err refusal) =
    (kind : StatesKind) × IsGiven states_kinds.Json (states_in (rules_of plant)) bytes (Err kind) × (refusal ≡ states_refusal kind)

abbrev pub StatesFile : {F : Type 0} → Calls F → List ℕ → PlantData → Step F (List AbsState)
StatesFile calls states plant = File calls states states_limit (HasStates plant)

-- ---- a list that is closed

-- the mode that a condition speaks of, if it speaks of one
abbrev pub mode_in : System → Why → List ℕ
mode_in system (MissingInitial mode) = unwrap_or (slice_get system.modes mode) (codes "")
mode_in system why = codes ""

-- what is said of the first condition that fails
abbrev pub why_refusal : PlantData → Why → Refusal
why_refusal plant why = no_refusal (mode_in plant.system why) why

-- the condition that a list fails first, if it isn't closed
abbrev pub why_open : Closure → Option Why
why_open closures.Yes = None
why_open (closures.MissingInitial mode) = Some (MissingInitial mode)
why_open (closures.Misuse state code) = Some (Misuse state code)
why_open (closures.Missing state transition) = Some (Missing state transition)

abbrev pub HasClosed : PlantData → List AbsState → Result (List AbsState) Refusal → Type 0
HasClosed plant listed (Ok states) = (states ≡ listed) × IsClosed plant listed
HasClosed plant listed (Err refusal) =
    (closure : Closure) × (why : Why) × IsClosure plant listed closure × (why_open closure ≡ Some why) × (refusal ≡ why_refusal plant why)

abbrev pub ClosedStates : {F : Type 0} → Calls F → List ℕ → PlantData → Step F (List AbsState)
ClosedStates calls states plant = Then (StatesFile calls states plant) (λ listed. Judged (HasClosed plant listed))
