-- Split certificates as inputs, over what is analysed.
use Rattle.std.specs.Prelude.{◌≡◌, ℕ, List, Result, Ok, Err}
use Rattle.json_fields.specs.Files.{IsGiven}
use Rattle.scheduler_moves.specs.Moves.{rules_of}
use Rattle.certificate.specs.declared.fault.CertKind.{CertKind}
use Rattle.certificate.specs.declared.fault.CertKind.TheVariants as cert_kinds
use Rattle.command_steps.specs.declared.halt.Refusal.{Refusal}
use Rattle.command_steps.specs.Steps.{Calls, Step, File}
use Rattle.reports.specs.Verdicts.{cert_refusal}
use Rattle.inputs.specs.declared.subjects.Analysed.{Analysed}
use Rattle.inputs.specs.Inputs.{states_limit}
use Rattle.split_cert.specs.declared.cert.SplitCert.{SplitCert}
use Rattle.split_cert.specs.Certificate.{split_in}

abbrev pub HasSplit : Analysed → List ℕ → List ℕ → Result SplitCert Refusal → Type 0
HasSplit analysed name bytes (Ok cert) = IsGiven cert_kinds.Json (split_in (rules_of analysed.plant) analysed.task name) bytes (Ok cert)
HasSplit analysed name bytes (Err refusal) =
    (kind : CertKind) × IsGiven cert_kinds.Json (split_in (rules_of analysed.plant) analysed.task name) bytes (Err kind)
    × (refusal ≡ cert_refusal kind)

-- a split certificate for the task of this name
abbrev pub SplitFile : {F : Type 0} → Calls F → List ℕ → List ℕ → Analysed → Step F SplitCert
SplitFile calls split name analysed = File calls split states_limit (HasSplit analysed name)
