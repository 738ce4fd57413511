-- What is said of what a search found.
use Rattle.std.specs.Prelude.{◌≡◌, ℕ, List, Option, Some, None, option_map, Result, Ok, Err}
use Rattle.json_fields.specs.Files.{IsGiven}
use Rattle.abstract_sched.specs.declared.rules.StateRules.{StateRules}
use Rattle.certificate.specs.declared.fault.CertKind.TheVariants as cert_kinds
use Rattle.cut_search.specs.declared.fault.SplitFault.{SplitFault}
use Rattle.cut_search.specs.declared.fault.SplitFault.TheVariants.{Solve, Cuts, NoTree, Memory}
use Rattle.command_steps.specs.declared.halt.Refusal.{Refusal}
use Rattle.bound_commands.specs.Solving.{fault_refusal}
use Rattle.split_cert.specs.declared.cert.SplitCert.{SplitCert}
use Rattle.split_cert.specs.Certificate.{split_in}
use Rattle.split_cert.specs.Lawful.{IsLawful}
use Rattle.split_cert.specs.Writing.{split_text}
use Rattle.split_commands.specs.Texts.{no_tree_refusal, cuts_refusal}

-- The text of the certificate for the task of this name, which is read again.
pub record IsTextOf (name : List ℕ) (cert : SplitCert) (text : List ℕ) : Type 0 where
  pub told : text ≡ split_text name cert
  pub again : (rules : StateRules) (task : ℕ) → IsLawful rules task cert → IsGiven cert_kinds.Json (split_in rules task name) text (Ok cert)

-- why there is no tree of cuts, if memory sufficed
abbrev pub search_refusal : SplitFault → Option Refusal
search_refusal (Solve fault) = fault_refusal fault
search_refusal (Cuts count) = Some (cuts_refusal count)
search_refusal NoTree = Some no_tree_refusal
search_refusal Memory = None

-- the answer by what was found
abbrev pub IsToldOf : List ℕ → Result SplitCert SplitFault → Result (List ℕ) Refusal → Type 0
IsToldOf name (Ok cert) (Ok text) = IsTextOf name cert text
IsToldOf name (Ok cert) (Err refused) = ⊥
IsToldOf name (Err fault) given = option_map Err (search_refusal fault) ≡ Some given
